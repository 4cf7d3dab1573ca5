-- What a vat keeps from rule to rule where no application finishes, releases or forgets (StillHolds): what came to something stays so, what
-- is exported stays exported; and the tickets of calls (TicketsHold).
pub mod Grows
pub mod Say
pub mod Give
pub mod Go
pub mod Does
pub mod Receives
pub mod Move
pub mod Tickets
pub mod Delivered
