pub mod Pointed
pub mod Blocks
pub mod RowItems
pub mod Owned
pub mod Constants
