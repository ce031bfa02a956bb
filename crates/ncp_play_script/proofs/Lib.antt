pub mod Digits
pub mod Cuts
pub mod HexDigits
pub mod Kept
pub mod Peers
pub mod ScriptLines
