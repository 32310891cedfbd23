pub mod Quantities
pub mod Formulas
pub mod Fills
pub mod Refusals
pub mod Series
pub mod Texts
pub mod Splice
pub mod Laws
