pub mod WordsFit
pub mod UsageMeant
pub mod TopClauses
