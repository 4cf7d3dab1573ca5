pub mod Flowing
pub mod Hearing
pub mod Headers
pub mod Noting
