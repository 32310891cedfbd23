pub mod Equalities
pub mod Affected
pub mod Closed
pub mod Patches
pub mod Counts
pub mod Dependence
pub mod NodeOrder
