pub mod Copies
pub mod Dispatcher
pub mod Joining
pub mod Linkable
pub mod Around
