pub mod MoreNotes
pub mod OneEvent
pub mod AskedLines
pub mod PlayedLines
pub mod PlayedScripts
