pub mod Owing
pub mod TwoOwed
pub mod NothingAtAll
pub mod WrongFlow
