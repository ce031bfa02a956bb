pub mod Work
pub mod HostsWork
pub mod WorkRuns
pub mod Idle
pub mod Finished
pub mod WorkRows
