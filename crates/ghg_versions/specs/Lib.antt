pub mod Recalculation
pub mod Desk
pub mod Versions
pub mod Replies
pub mod Lines
