pub use Rattle.block_cut.specs.Places
pub use Rattle.block_cut.specs.Transfers
pub use Rattle.block_cut.specs.Blocks
pub use Rattle.block_cut.specs.CountedEdges
pub mod LiftedBlock
pub mod FewLines
