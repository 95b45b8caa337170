pub mod Widen
pub mod KindsLead
pub mod OpeningCode
pub mod RunsInCode
pub mod EdgesCounted
pub mod BlocksRun
pub mod KnownExitsTaken
pub mod FewerMarks
