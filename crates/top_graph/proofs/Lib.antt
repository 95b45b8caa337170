pub mod Quiet
pub mod MergeMeant
pub mod GraphRuns
pub mod ShowMeant
