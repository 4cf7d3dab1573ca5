-- Each export's count is what it is owed (CountsAgree), and what follows of the messages on the way. rules/ has what each rule of one
-- vat sends, and local/ what it does to questions whose Call wasn't sent; the files here join two vats.
pub mod rules
pub mod Sums
pub mod Standing
pub mod Lives
pub mod Agree
pub mod AgreeAll
pub mod Moves
pub mod Expected
pub mod RulesMeetNoFault
pub mod NoFault
pub mod Tally
pub mod local
pub mod LedgerAgrees
