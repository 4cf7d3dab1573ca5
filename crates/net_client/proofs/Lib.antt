pub mod Giving
pub mod Passing
pub mod Limiting
