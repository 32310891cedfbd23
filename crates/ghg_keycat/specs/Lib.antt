pub mod Entries
pub mod Laws
pub mod Ranking
pub mod Sizes
