pub mod ColdStarts
pub mod Meets
