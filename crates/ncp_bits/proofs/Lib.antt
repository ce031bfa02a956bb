pub mod Enough
pub mod Runs
pub mod Joins
pub mod Same
pub mod Judging
