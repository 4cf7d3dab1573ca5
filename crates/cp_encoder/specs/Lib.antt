pub mod ReadBack
pub mod Values
