pub mod Changing
pub mod Boxed
pub mod SampleTrees
pub mod ContentTrees
