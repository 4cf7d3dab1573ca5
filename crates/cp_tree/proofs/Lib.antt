pub mod Trees
pub mod Shapes
pub mod Pointees
pub mod PartsShaped
pub mod Numbers
pub mod Spending
