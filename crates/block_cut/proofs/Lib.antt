pub mod Standing
pub mod Reading
pub mod Follows
pub mod Unique
