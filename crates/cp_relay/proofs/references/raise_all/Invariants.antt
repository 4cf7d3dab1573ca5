use Rattle.std.proofs.Common.{◌≡◌, drop}
use Rattle.cp_relay.specs.References.{raised_all}
use Rattle.cp_relay.proofs.references.raise_all.Given as goal

abbrev pub invariant-loop-id : goal.invariant-loop-id
invariant-loop-id l = raised_all l.shares l.given l.marks (drop l.id-index l.numbers) ≡ raised_all l.shares l.initial.given l.marks l.numbers
