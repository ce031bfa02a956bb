pub mod Paying
pub mod Going
pub mod Resting
pub mod Leading
pub mod Running
mod NotesRest
pub mod OfModel
pub mod Finished
pub mod Beginning
pub mod HostWork
mod RunWork
