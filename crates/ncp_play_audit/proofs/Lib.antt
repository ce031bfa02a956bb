pub mod Findings
mod Places
pub mod Covering
pub mod Words
