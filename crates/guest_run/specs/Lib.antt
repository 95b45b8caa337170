pub mod Guest
pub mod Advance
pub mod BoundedRun
pub mod InputUse
