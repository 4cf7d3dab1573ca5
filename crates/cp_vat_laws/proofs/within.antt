-- What each rule keeps of what holds of a vat within an event (Within), each rule in a file of its name; a message that comes
-- in a file that ends with Comes.
pub mod Ways
pub mod AllKept
pub mod StaysThere
pub mod Follows
pub mod Between
pub mod InHand
pub mod Tickets
pub mod Exports
pub mod Take
pub mod Settle
pub mod Give
pub mod GiveOwn
pub mod Rest
pub mod Go
pub mod Leave
pub mod Turns
pub mod CallComes
pub mod ReturnComes
pub mod ResolveComes
pub mod Asks
pub mod Mark
pub mod Call
pub mod Finish
pub mod Does
pub mod Step
