pub mod Session
pub mod Kept
pub mod Calls
