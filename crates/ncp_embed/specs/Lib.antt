pub mod Exports
pub mod SubnetExports
pub mod Names
pub mod Which
pub mod Connected
pub mod Buffers
pub mod FromBits
