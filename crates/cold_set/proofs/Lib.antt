pub mod ColdRounds
pub mod Members
pub mod Leading
pub mod Meeting
