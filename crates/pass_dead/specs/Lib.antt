pub mod Names
pub mod Needed
