pub mod Bits
pub mod Packed
pub mod Store
pub mod Reasons
