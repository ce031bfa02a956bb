pub mod Tied
pub mod Headline
pub mod OfHosts
