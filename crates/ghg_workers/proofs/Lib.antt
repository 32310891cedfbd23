pub mod Wholes
pub mod Filling
