pub mod GuestToo
pub mod TracesRun
pub mod ReadMeant
pub mod PartTurns
pub mod ReadCourse
