pub mod ControlTexts
mod Once
mod EachLink
