pub mod Powers
pub mod Rounded
pub mod Ends
pub mod Found
