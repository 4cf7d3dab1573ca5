pub mod Tables
pub mod within
pub mod order
pub mod telling
pub mod writable
