pub mod View
pub mod Layout
pub mod Pages
pub mod Pieces
pub mod Lending
pub mod Lent
