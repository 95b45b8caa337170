pub mod ColdCode
pub mod Behind
pub mod Linking
