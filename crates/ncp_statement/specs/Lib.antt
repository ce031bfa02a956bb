pub mod Statement
pub mod Examples
