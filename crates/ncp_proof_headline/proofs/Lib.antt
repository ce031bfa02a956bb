pub mod Ties
pub mod TiesBase
pub mod Lives
mod TiesClear
mod TiesCalls
mod TiesHears
pub mod TiesTexts
pub mod HostsJoined
mod TiesFull
pub mod HostsSteps
pub mod HostsHeld
pub mod OpensNot
mod LinkSums
pub mod HostsHeadline
