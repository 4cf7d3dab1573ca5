pub mod Limits
pub mod Segments
pub mod Word
pub mod Targets
