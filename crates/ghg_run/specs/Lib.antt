pub mod Opening
pub mod Reviewing
pub mod Run
pub mod Serve
pub mod Sound
pub mod Splicing
