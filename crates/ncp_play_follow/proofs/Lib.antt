pub mod FollowedPasses
pub mod SaidTexts
