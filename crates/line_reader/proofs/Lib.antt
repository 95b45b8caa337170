mod Counts
mod Reached
mod Answered
