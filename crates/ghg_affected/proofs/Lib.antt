pub mod Bools
pub mod Equalities
pub mod Affected
pub mod Closed
pub mod Kept
pub mod Once
pub mod Dependence
pub mod NodeOrder
