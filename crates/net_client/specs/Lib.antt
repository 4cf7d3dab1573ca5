pub mod Limited
pub mod Passing
pub mod Tries
