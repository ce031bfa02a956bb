pub mod Recordings
pub mod Examples
pub mod Worlds
