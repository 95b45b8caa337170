pub mod Choices
pub mod Pieces
pub mod Joined
pub mod Suited
pub mod Exchange
pub mod Parts
