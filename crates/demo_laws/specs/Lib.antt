pub mod Accepted
pub mod Sites
pub mod Runs
pub mod Graph
