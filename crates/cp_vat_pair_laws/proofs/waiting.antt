-- What each turn keeps of the calls that wait: each waits for what its port leads to (SettlingKeeps, TiedAreOpen, TurnKeeps).
pub mod Routes
pub mod Settle
pub mod Tied
pub mod Fail
pub mod Turn
