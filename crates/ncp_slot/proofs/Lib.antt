pub mod Places
pub mod Runs
pub mod Turns
pub mod Waking
pub mod Links
