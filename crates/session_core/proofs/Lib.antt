pub mod Ordered
mod Changes
mod Follow
mod CallsHold
mod Laying
mod Seen
