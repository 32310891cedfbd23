pub mod Rounded
pub mod RootBounds
pub mod Held
