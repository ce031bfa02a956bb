pub mod Waits
pub mod Strikes
pub mod Filling
pub mod Copying
pub mod Short
pub mod Restored
