pub mod Ends
pub mod Lines
pub mod Sound
pub mod Table
pub mod Totals
