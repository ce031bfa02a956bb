pub mod Streaming
pub mod Saying
