-- For the crates above:
pub mod Runs
pub mod Widen
pub mod Native
pub mod Same
pub mod Moves
pub mod Indirect
pub mod Pass
mod Forward
mod Whole
mod Image
mod High
mod Known
mod Blocks
mod Acts
mod Natives
mod Openings
mod Joined
mod Lines
mod Coding
mod Ends
mod Pieces
mod Linked
mod WholeBlock
mod PlacedLines
