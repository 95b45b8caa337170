pub mod Valid
pub mod Effect
