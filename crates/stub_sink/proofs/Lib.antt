pub mod Serves
pub mod Listing
pub mod Sets
pub mod Bodies
