pub mod Views
pub mod Calls
pub mod Clearings
pub mod Stops
pub mod Noted
