pub mod Live
pub mod Rows
pub mod Laws
pub mod Links
pub mod Growing
pub mod Examples
