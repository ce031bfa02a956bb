pub mod Amounts
pub mod Tracks
pub mod Connections
pub mod Sessions
pub mod Tables
pub mod Followed
pub mod Examples
pub mod ConnectionRows
