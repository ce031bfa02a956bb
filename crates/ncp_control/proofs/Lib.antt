pub mod Text
pub mod Fields
pub mod Begins
pub mod Again
pub mod Reading
pub mod Items
pub mod Faults
