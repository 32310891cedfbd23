pub mod Places
pub mod Slots
pub mod Cellwise
pub mod Rooms
pub mod Writing
pub mod Overs
