-- Parts of an event, at either end: what they send, deliver and leave as it is.
pub mod Tables
pub mod Lives
pub mod Silent
pub mod Go
pub mod Calm
pub mod Midway
