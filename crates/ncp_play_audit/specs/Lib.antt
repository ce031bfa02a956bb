pub mod FindingLines
pub mod CoverageLines
pub mod Audited
pub mod Rules
