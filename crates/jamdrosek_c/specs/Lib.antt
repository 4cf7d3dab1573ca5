pub mod Tell
pub mod Reader
pub mod Codec
pub mod Connection
pub mod Relay
