pub mod ReadBack
pub mod Rows
