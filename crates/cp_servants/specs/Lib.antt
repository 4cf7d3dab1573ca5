pub mod Outcomes
pub mod Requests
pub mod Servant
pub mod Samples
pub mod Sample
pub mod Naming
pub mod Made
pub mod PayloadFields
