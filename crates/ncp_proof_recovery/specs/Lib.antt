pub mod ManySettling
pub mod Recovery
pub mod Notes
pub mod Echoes
pub mod CallingBack
