pub mod Apart
mod Found
pub mod FirstWords
pub mod HeaderTexts
pub mod Hosts
pub mod Nearness
pub mod Numbers
pub mod Pieces
pub mod Places
pub mod Spelled
