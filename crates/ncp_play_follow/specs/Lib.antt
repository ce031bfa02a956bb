pub mod ConnectionLines
pub mod Letters
pub mod FollowedFiles
pub mod FollowedTexts
pub mod Ends
