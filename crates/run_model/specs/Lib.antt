pub mod Opening
pub mod Run
pub mod Edges
pub mod Sound
pub mod Split
