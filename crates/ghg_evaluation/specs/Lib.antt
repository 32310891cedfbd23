pub mod Kept
pub mod Arguments
pub mod Evaluation
