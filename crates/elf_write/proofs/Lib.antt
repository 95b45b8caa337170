pub mod Appends
pub mod ReadBack
pub mod Loops
