pub mod Draws
pub mod Bodies
pub mod Summary
