-- Each message that a vat ever sends can be written (StepsWrite, RunsWrite).
pub mod Apart
pub mod Caps
pub mod Keeping
pub mod Hearing
pub mod Doing
pub mod Writing
pub mod Stepping
