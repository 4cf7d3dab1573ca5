pub mod CountedLemmas
pub mod ExchangeLemmas
pub mod TableLemmas
pub mod PlacedLemmas
