pub mod Transit
pub mod Messages
pub mod Ways
pub mod Subnet
pub mod Codes
pub mod OfPlaces
