pub mod Owed
pub mod EchoOwed
