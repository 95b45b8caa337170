pub mod Lengths
pub mod Result
pub mod Together
pub mod Members
