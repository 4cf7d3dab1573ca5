-- Calls on a reference come in order over both vats (LaneOrder). A lane is the calls on one reference. Its own end is the vat that holds the
-- reference and makes the calls; the other end is its peer. own/ and other/ have what is done there, parts/ what both use.
pub mod other
pub mod own
pub mod parts
pub mod Lists
pub mod Calm
pub mod OrderFollows
pub mod Order
