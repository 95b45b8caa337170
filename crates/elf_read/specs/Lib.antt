pub mod Elf
pub mod Reads
pub mod Code
pub mod Regions
