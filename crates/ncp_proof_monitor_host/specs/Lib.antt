pub mod AllRules
pub mod Talking
