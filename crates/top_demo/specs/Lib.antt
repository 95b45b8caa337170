pub mod DemoRuns
pub mod DemoPlan
pub mod DemoFits
pub mod DemoMeaning
