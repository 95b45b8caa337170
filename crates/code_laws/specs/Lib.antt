pub mod Seen
pub mod Exchange
pub mod Laws
pub mod Placed
pub mod Moves
pub mod Valid
