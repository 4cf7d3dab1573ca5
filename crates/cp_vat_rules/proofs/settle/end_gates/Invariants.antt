use Rattle.std.proofs.Common.{◌≡◌, drop}
use Rattle.cp_vat_state.specs.Queue.{with_over}
use Rattle.cp_vat_rules.specs.Settling.{over_settled}
use Rattle.cp_vat_rules.proofs.settle.end_gates.Given as goal

-- what the rest ends from now on, all end from the start
abbrev pub invariant-loop-one : goal.invariant-loop-one
invariant-loop-one l =
    with_over l.initial.gates (over_settled l.initial.gates.waiting.over l.settled) ≡ with_over l.gates (over_settled l.gates.waiting.over (drop l.one-index l.settled))
