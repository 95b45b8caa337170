pub mod Edges
pub mod Trace
pub mod Reads
