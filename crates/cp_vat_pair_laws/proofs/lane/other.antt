-- What is done at the other end keeps the lane. First the phases and what moves no call, then the rules and turns, the messages that come,
-- what the application does there, and all of these.
pub mod Calm
pub mod Phase
pub mod NotOfLane
pub mod NoCallMoves
pub mod Places
pub mod Chain
pub mod Take
pub mod Give
pub mod Turn
pub mod Leave
pub mod Start
pub mod StartPlaces
pub mod CallGoes
pub mod CallComes
pub mod ResolveComes
pub mod ReturnComes
pub mod FinishComes
pub mod Does
pub mod DoesThenLeave
pub mod Move
