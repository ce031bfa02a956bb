pub mod Leader
pub mod Bytes
pub mod Fault
pub mod Message
pub mod Same
pub mod Front
