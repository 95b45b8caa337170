pub mod Steps
pub mod Operands
pub mod Table
pub mod Lifted
pub mod Means
pub mod Making
