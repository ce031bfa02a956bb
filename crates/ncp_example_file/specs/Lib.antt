pub mod Accounts
pub mod Calls
pub mod Transfers
