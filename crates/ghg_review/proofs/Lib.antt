pub mod Reviews
mod Undone
