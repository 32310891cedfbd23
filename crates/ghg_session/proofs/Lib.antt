pub mod Answered
pub mod Answering
pub mod Decided
pub mod Keeping
mod Replied
mod Writings
