pub mod Counting
pub mod Holding
pub mod Living
pub mod Working
pub mod Awaiting
pub mod Lending
pub mod Dropping
pub mod TakingOut
