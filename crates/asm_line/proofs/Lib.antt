pub mod LineTexts
pub mod LineForms
pub mod LineSizes
pub mod CodeBytes
