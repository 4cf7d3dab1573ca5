pub mod Answers
pub mod Viewed
pub mod Looked
pub mod OwnedNode
