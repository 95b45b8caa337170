pub mod Places
pub mod LastUses
pub mod Laws
pub mod Examples
