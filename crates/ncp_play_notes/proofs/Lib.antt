pub mod Writing
pub mod MoreNotes
pub mod OneInput
pub mod Appended
