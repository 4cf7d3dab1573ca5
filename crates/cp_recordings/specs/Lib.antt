pub mod Recorder
pub mod Traffic
