pub mod Ruling
pub mod Operands
