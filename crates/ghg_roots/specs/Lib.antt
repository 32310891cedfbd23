pub mod Decay
pub mod Roots
pub mod Laws
