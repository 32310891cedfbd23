pub mod Command
pub mod Laws
pub mod Options
pub mod Status
pub mod Values
