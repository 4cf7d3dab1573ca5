pub mod Kinds
pub mod Items
pub mod Numbers
pub mod Pointers
pub mod Constants
pub mod Parts
pub mod Rows
pub mod Blocks
