pub mod Commands
pub mod Reader
pub mod Reading
pub mod Review
pub mod Script
pub mod Words
