pub mod TracedRun
pub mod TraceTold
pub mod Records
