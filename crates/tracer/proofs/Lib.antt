pub mod EdgeSets
pub mod MoreEdges
pub mod LoopSteps
pub mod TraceOfRun
