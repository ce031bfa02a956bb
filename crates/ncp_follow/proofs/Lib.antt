pub mod Ending
pub mod Items
pub mod Records
