pub mod Faults
pub mod Names
pub mod Results
pub mod Arrived
pub mod NoteLines
pub mod Playing
pub mod Examples
