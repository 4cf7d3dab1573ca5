pub mod BrandBinding
pub mod BrandScope
pub mod Field
pub mod Node
pub mod Type_
pub mod Value
