-- What each rule does to questions whose Call wasn't sent, beside what is told of them (AreTallied.local).
pub mod Matches
pub mod Give
pub mod Go
pub mod Call
pub mod Does
pub mod Receives
pub mod Steps
pub mod Stages
