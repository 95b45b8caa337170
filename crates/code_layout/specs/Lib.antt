pub mod Keys
pub mod Linked
pub mod Image
pub mod Layout
pub mod Rows
pub mod Places
pub mod Growth
pub mod CodeShort
