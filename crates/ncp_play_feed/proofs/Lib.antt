pub mod Going
pub mod Arrivals
pub mod Departures
pub mod Whole
pub mod Reading
