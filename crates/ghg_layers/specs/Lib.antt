pub mod Grids
pub mod Lines
pub mod Turns
pub mod Ranks
pub mod Buckets
pub mod Layers
