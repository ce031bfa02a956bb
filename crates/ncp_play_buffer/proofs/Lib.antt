pub mod Decimal
pub mod Digits
pub mod Outcomes
pub mod Pieces
pub mod InBuffers
