pub mod Waiting
pub mod TextErrors
