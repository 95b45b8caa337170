pub mod KeptRegions
pub mod KeptStates
pub mod SegmentEnds
pub mod SoundOpening
pub mod SplitRuns
