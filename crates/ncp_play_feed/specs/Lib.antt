pub mod Feeds
pub mod Steps
pub mod Going
pub mod Examples
