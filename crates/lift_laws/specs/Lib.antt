pub mod BlockMeans
