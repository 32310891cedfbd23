pub mod Numbers
pub mod Orders
pub mod Steps
pub mod Words
