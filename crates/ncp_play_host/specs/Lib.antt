pub mod Events
pub mod Asking
pub mod Doing
pub mod Beginning
pub mod Played
