use Rattle.std.proofs.Common.{◌≡◌, drop}
use Rattle.cp_relay.specs.References.{lowered_all}
use Rattle.cp_relay.proofs.references.lower_all.Given as goal

abbrev pub invariant-loop-id : goal.invariant-loop-id
invariant-loop-id l = lowered_all l.given (drop l.id-index l.numbers) ≡ lowered_all l.initial.given l.numbers
