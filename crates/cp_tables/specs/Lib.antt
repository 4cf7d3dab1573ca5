pub mod Table
pub mod Exchange
pub mod Counted
pub mod Placed
