pub mod Bytes
pub mod Sessions
pub mod TransitStates
pub mod Readings
pub mod Meanings
