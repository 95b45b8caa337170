pub mod Bytes
pub mod Words
pub mod Keeping
pub mod Checking
pub mod Steps
