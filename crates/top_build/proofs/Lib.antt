pub mod ImageStored
pub mod EdgesGiven
pub mod Courses
pub mod BuildMeant
