pub mod Bodies
pub mod Others
pub mod ReadBack
pub mod Rows
pub mod Widened
pub mod Words
pub mod Copied
