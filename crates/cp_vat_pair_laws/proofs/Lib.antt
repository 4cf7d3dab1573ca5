pub mod NewPairs
pub mod NewVats
pub mod counts
pub mod numbers
pub mod waiting
pub mod still
pub mod lane
