pub mod Found
mod Pairs
pub mod Fills
pub mod Kept
pub mod Whole
pub mod Writable
pub mod Labels
pub mod Links
pub mod Targets
pub mod Chosen
pub mod Ways
pub mod Each
pub mod EntryKnown
mod NextKeys
mod Builds
pub mod LiveRows
pub mod ShortCode
mod Outward
