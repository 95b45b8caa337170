pub mod Numbers
pub mod Refusals
pub mod Walk
pub mod Parts
pub mod Accepted
pub mod Result
