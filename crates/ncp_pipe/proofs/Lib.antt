pub mod Prefixes
pub mod AllConnections
pub mod Within
pub mod Weaving
pub mod SenderWeaving
pub mod ReceiverWeaving
