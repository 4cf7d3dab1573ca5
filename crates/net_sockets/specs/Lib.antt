pub mod Flow
pub mod Greeting
pub mod Incoming
pub mod ProxyHeader
pub mod Readiness
pub mod Reading
pub mod Sockets
