pub mod Orders
pub mod Obeying
