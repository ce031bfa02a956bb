pub mod Auditing
pub mod Blaming
pub mod Statuses
