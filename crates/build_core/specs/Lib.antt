pub mod ImageLaw
pub mod ImageQuick
