pub mod StartSets
pub mod SiteRuns
pub mod RowsShow
pub mod IndexOf
pub mod Ascending
pub mod OneList
pub mod KnownCuts
pub mod Applied
