pub mod Replies
pub mod Session
pub mod Writing
