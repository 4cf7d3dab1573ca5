pub mod Basics
pub mod NewVats
