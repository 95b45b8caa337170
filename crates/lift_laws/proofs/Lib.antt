pub mod NeverCalls
pub mod Appended
pub mod StepsMean
