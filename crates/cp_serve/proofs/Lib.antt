pub mod Closing
pub mod Simulating
pub mod Written
pub mod Running
pub mod Reaching
pub mod Landing
pub mod Ending
