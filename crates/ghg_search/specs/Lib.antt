pub mod Index
pub mod Years
pub mod Series
pub mod Found
pub mod Listing
pub mod Search
pub mod Changed
