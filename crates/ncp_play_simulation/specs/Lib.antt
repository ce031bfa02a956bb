pub mod Rules
pub mod Printing
pub mod Playing
pub mod NextEvents
pub mod Players
