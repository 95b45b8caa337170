pub mod BuildPlan
pub mod BuildMeaning
pub mod Spelled
