pub mod Order
pub mod First
pub mod Last
pub mod Placed
pub mod Lie
pub mod Marks
pub mod Steps
pub mod Splits
