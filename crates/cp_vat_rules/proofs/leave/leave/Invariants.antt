use Rattle.std.proofs.Common.{◌≡◌, [], ◌++◌, List, None}
use Rattle.cp_vat_machine.specs.declared.effect.Effect.{Effect}
use Rattle.cp_vat_laws.specs.Within.{Within}
use Rattle.cp_vat_laws.proofs.within.Turns.{turns_left}
use Rattle.cp_vat_state.specs.StateOf.{state_of}
use Rattle.cp_vat_rules.proofs.Going.{LeavesFrom}
use Rattle.cp_vat_rules.proofs.leave.leave.Given as goal

-- what leaves from now on, after what left, leaves from the start
abbrev pub invariant-leaving : goal.invariant-leaving
invariant-leaving l =
    record {
      left : (done : List Effect) × (l.effects.items ≡ l.initial.effects.items ++ done) × LeavesFrom (state_of l.initial.core) (state_of l.core) done;
      within : Within (state_of l.core) None [];
    }

abbrev pub decreases-leaving : goal.decreases-leaving
decreases-leaving l = turns_left (state_of l.core)
