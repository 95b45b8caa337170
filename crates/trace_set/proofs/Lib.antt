pub mod Tables
pub mod Names
pub mod Shows
pub mod Laid
pub mod Uses
pub mod Kept
pub mod Held
