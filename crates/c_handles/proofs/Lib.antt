pub mod Handles
pub mod Values
pub mod Reading
pub mod Counting
pub mod Naming
pub mod Framing
