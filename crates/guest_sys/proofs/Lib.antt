pub mod BufferAccess
pub mod PutBytes
pub mod Pieces
pub mod TakenBytes
pub mod FilledPieces
pub mod GivenPieces
pub mod DoneCalls
pub mod WriteCalls
