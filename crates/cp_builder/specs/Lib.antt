pub mod Numbers
pub mod Drafts
pub mod Copies
