pub mod Settling
pub mod NotesWork
pub mod Resting
pub mod Settled
pub mod HostWork
pub mod RunWork
pub mod Rows
