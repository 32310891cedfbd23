pub mod Amounts
pub mod Millionths
pub mod Held
pub mod Sound
pub mod Sums
