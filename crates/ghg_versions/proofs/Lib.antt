pub mod Looking
pub mod Reports
pub mod Keeping
pub mod Replying
