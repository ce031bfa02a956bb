pub mod Since
pub mod EachTwo
pub mod Moments
pub mod Notes
pub mod HonestRuns
pub mod Finished
pub mod Restarts
pub mod Examples
