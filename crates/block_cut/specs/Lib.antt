pub mod Places
pub mod Transfers
pub mod Blocks
pub mod CountedEdges
