pub mod Columns
pub mod Cells
pub mod Written
pub mod Fresh
pub mod Overlays
