pub mod Value
pub mod Agree
pub mod Checked
pub mod Same
