-- What is given in a turn is reported in it, once, and nothing else is (TellsItsGift); so every run is in order (RunsAreInOrder).
pub mod Bears
pub mod Told
pub mod Silent
pub mod Enters
pub mod ReturnTable
pub mod ReturnComes
pub mod Runs
