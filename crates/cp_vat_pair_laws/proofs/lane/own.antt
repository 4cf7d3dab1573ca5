-- What is done at the lane's own end keeps it. First the phases and what moves no call, then the rules and turns, the messages that come,
-- the application's calls, and all of these.
pub mod Calm
pub mod Phase
pub mod Reference
pub mod NotOfLane
pub mod NoCallMoves
pub mod Take
pub mod Turn
pub mod Leave
pub mod Does
pub mod NextTicket
pub mod Asks
pub mod CallSteps
pub mod PhaseOfCall
pub mod CallElsewhere
pub mod CallOnIt
pub mod Call
pub mod ResolveComes
pub mod ReturnTable
pub mod ReturnComes
pub mod EchoComes
pub mod CallOfNone
pub mod CallComesBack
pub mod OtherComes
pub mod Tickets
pub mod Move
