pub mod Views
pub mod Compiled
pub mod Proposals
pub mod Notes
pub mod Evaluation
pub mod Progress
pub mod Layers
pub mod Withdrawn
