pub mod Leading
pub mod Paces
pub mod Ungiven
pub mod Going
pub mod Settling
pub mod Giving
