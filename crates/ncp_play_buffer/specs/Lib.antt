pub mod InBuffers
pub mod Lines
pub mod BufferedSinks
pub mod BufferedSources
