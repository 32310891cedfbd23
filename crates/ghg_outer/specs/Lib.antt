pub mod Bytes
pub mod Counts
pub mod Doors
pub mod Links
pub mod Plans
pub mod Tape
pub mod Tcp
pub mod Writing
