-- For the crates above:
pub mod Capture
mod Checked
mod Named
mod Placing
mod Served
mod Steps
mod Body
mod Stub
mod Way
mod Whole
mod Joined
mod Suited
mod Parted
