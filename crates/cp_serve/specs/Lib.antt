pub mod Work
pub mod Service
pub mod History
pub mod Output
pub mod Faults
pub mod Kinds
pub mod Matching
pub mod Reached
