pub mod OpenedTexts
