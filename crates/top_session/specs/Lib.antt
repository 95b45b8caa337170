pub mod Lines
pub mod SessionPlan
pub mod Parts
pub mod Sitting
pub mod SessionMeaning
