-- A number stays its capability's while the other vat holds it (NumbersStay), and what is left where no message is on the way.
pub mod Go
pub mod Does
pub mod Receives
pub mod Changes
pub mod Moves
pub mod Left
