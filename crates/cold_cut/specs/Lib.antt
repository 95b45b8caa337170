pub mod ColdBlocks
