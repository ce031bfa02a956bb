mod Turned
pub mod MoveLines
