pub mod Splits
pub mod Serving
