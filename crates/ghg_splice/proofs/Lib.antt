pub mod AllRecords
pub mod Held
pub mod Joined
pub mod Lists
pub mod Rows
