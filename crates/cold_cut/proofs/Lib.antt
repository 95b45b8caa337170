pub mod ColdReading
