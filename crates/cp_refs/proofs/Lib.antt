pub mod Paths
pub mod Walks
pub mod TicketLemmas
pub mod Queueing
pub mod Keeping
pub mod Measuring
pub mod Sums
