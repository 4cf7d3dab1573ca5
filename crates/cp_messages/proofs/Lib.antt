pub mod Adding
pub mod Nones
pub mod Readback
pub mod Saying
pub mod Shaping
pub mod Words
