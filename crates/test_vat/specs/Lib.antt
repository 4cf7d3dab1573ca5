pub mod RowWords
pub mod Rows
pub mod LedgerRows
pub mod OrderRows
pub mod PairRows
pub mod CountPairs
pub mod LaneRows
pub mod LanePairs
