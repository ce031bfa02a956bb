pub mod Reading
pub mod NextLines
pub mod LentScripts
