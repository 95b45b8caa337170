pub mod Bools
pub mod Least
pub mod Stores
pub mod Keeping
pub mod Checking
pub mod Steps
