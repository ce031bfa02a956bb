mod Near
mod Beside
mod Steps
mod Judging
mod Own
mod Taken
mod Sent
mod Unclear
mod Walk
pub mod Plain
