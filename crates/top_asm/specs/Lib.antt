pub mod AsmPlan
pub mod AsmMeaning
