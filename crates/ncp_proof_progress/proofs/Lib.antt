mod EndWork
pub mod EndsWork
mod PhaseWork
pub mod PeerWork
mod LinkWork
pub mod HostsWork
mod Still
pub mod LeavingEnds
pub mod ResetsWait
pub mod Settled
mod Echoes
pub mod AtRest
pub mod PairsFinished
mod Meaning
