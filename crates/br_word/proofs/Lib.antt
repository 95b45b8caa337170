pub mod BitLaws
pub mod Results
pub mod Sums
pub mod Differences
pub mod Shifts
pub mod Numbers
pub mod CountValue
pub mod CountWalk
