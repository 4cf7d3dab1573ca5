pub mod Peer
pub mod Behind
pub mod Counts
pub mod Wire
