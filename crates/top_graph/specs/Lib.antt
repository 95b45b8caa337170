pub mod MergePlan
pub mod MergeMeaning
pub mod ShowPlan
pub mod ShowMeaning
