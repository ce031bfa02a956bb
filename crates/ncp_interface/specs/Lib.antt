pub mod Events
pub mod Notices
pub mod Contents
pub mod Sockets
pub mod Slots
pub mod Doubts
pub mod Examples
