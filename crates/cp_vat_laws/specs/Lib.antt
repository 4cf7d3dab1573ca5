pub mod Within
pub mod Keeping
pub mod OrderKept
pub mod Sizes
