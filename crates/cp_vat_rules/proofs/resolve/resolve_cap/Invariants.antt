use Rattle.std.proofs.Common.{◌≡◌}
use Rattle.cp_refs.specs.declared.cap.Cap.{Cap}
use Rattle.cp_vat_machine.specs.Writing.{ResolvesTo}
use Rattle.cp_vat_rules.proofs.resolve.resolve_cap.Given as goal

-- what the capability that was reached comes to, the one asked for comes to
abbrev pub invariant-loop-last : goal.invariant-loop-last
invariant-loop-last l = (l.reached.values.now ≡ l.values) × ((c : Cap) → ResolvesTo l.values l.reached.cap c → ResolvesTo l.values l.fn.cap c)

abbrev pub decreases-loop-last : goal.decreases-loop-last
decreases-loop-last l = l.reached.ending.0
