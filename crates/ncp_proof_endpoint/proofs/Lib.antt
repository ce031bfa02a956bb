mod Refused
mod Kept
mod Bytes
mod OneCls
mod Used
mod Opens
pub mod LinksStay
pub mod LimitsKept
pub mod SoundEnds
pub mod BooksKept
