pub mod RunPlan
pub mod TracePlan
pub mod RunMeaning
pub mod TraceMeaning
