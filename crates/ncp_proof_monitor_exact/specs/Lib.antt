pub mod Covered
pub mod Cases
pub mod Deeds
pub mod Exact
pub mod Examples
pub mod Judged
pub mod JudgedExamples
