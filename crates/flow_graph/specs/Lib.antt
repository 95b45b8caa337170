pub use Rattle.block_cut.specs.CountedEdges
pub mod Graph
pub mod GraphOf
pub mod CutStarts
pub mod BlockRows
