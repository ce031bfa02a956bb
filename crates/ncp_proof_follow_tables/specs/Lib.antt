pub mod TextReported
pub mod FileFollowed
pub mod Examples
