pub mod Lifting
pub mod FewLines
