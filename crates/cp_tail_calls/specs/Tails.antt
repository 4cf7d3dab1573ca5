-- What is kept of tail calls. (rpc.capnp: "Call.sendResultsTo", "Return.resultsSentElsewhere", "Return.takeFromOtherQuestion".)
use Rattle.std.specs.Prelude.{ℕ, List, []}
use Rattle.std.specs.FinMap.{empty}
use Rattle.cp_tables.specs.Table.{Table}
use Rattle.cp_messages.specs.declared.returned.Return.{Return}
use Rattle.cp_tail_calls.specs.declared.forwarding.ForwardedMessage.{ForwardedMessage}
use Rattle.cp_tail_calls.specs.declared.progress.Progress.{Progress}

-- How far each call of the peer's is that has results to itself, by its question; results of such calls that no question took yet; the questions of this
-- end that take results which aren't there yet, each with the call whose results it takes; how many more the vat counts of an import than the peer does;
-- and what is still to be passed on, in order.
pub record Tails : Type 0 where
  pub calls : Table Progress
  pub results : Table Return
  pub takers : Table ℕ
  pub lent : Table ℕ
  pub owed : List ForwardedMessage

-- no tail calls
abbrev pub none : Tails
none = record { calls = empty; results = empty; takers = empty; lent = empty; owed = [] }
