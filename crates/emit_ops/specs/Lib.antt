pub mod Templates
pub mod Sequences
pub mod Placed
