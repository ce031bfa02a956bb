pub mod Pieces
pub mod Memory
pub mod Streams
