pub mod Waiting
pub mod Flags
pub mod SavedPhase
pub mod Restoring
