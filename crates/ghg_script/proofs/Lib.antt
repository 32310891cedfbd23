pub mod Commands
mod Forms
mod Pieces
pub mod Readings
mod ReviewForms
mod Scripts
mod Splits
