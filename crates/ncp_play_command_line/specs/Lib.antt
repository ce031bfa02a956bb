pub mod CommandLine
pub mod Examples
