pub mod FewEdges
pub mod CalmRuns
pub mod ImageLength
pub mod Fits
pub mod Limits
pub mod LineMade
pub mod SameShown
pub mod DemoMeant
