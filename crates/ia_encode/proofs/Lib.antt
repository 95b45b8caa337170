pub mod RoundTrip
pub mod ItemsStand
