use Rattle.std.proofs.Common.{◌≡◌, ◌+◌, ℕ, drop}
use Rattle.cp_tables.specs.Counted.{count_of}
use Rattle.cp_vat_machine.specs.Receiving.{lowered, times}
use Rattle.cp_vat_rules.proofs.exports.release_exports.Given as goal

-- what the rest lowers from now on, all lower from the start; and each count with what was taken off is the one at the start
abbrev pub invariant-loop-id : goal.invariant-loop-id
invariant-loop-id l =
    record {
      same : lowered l.initial.exports l.ids ≡ lowered l.exports (drop l.id-index l.ids);
      counted : (e : ℕ) → count_of l.exports e + times e l.ids ≡ count_of l.initial.exports e + times e (drop l.id-index l.ids);
    }
