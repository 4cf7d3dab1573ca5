pub mod Firsts
pub mod Items
pub mod Parts
pub mod Texts
pub mod Fitting
