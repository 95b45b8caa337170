pub mod Outside
pub mod Failing
pub mod Files
pub mod Forms
pub mod Streams
