pub mod OriginalPart
pub mod TracesPart
pub mod Answers
pub mod ReadMeaning
