pub mod Sums
pub mod Extents
pub mod Shifts
pub mod Laws
pub mod Noted
pub mod Progress
