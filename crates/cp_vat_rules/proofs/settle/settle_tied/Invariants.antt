use Rattle.std.proofs.Common.{◌≡◌, [], ◌++◌, List, drop, Result}
use Rattle.cp_refs.specs.Values.{ValueMaps}
use Rattle.cp_vat_machine.specs.State.{State}
use Rattle.cp_vat_machine.specs.Then.{Done}
use Rattle.cp_vat_machine.specs.Give.{SettleTied}
use Rattle.cp_vat_machine.specs.declared.effect.Effect.{Effect}
use Rattle.cp_vat_machine.specs.declared.fault.PeerFault.{PeerFault}
use Rattle.cp_vat_machine.specs.InUse.{caps_of}
use Rattle.cp_vat_rules.specs.Ungiven.{AllEnd, AreOpenOnce}
use Rattle.cp_vat_rules.specs.Settling.{lowered_back, raised_by, reopened, settling}
use Rattle.cp_vat_rules.proofs.Giving.{prefixed}
use Rattle.cp_vat_rules.proofs.settle.settle_tied.Given as goal

-- What settling the rest does, after what was done, settling all does. What was done is taken back to what there was at the start. The rest are
-- open, and the ways of what the outcome names end.
abbrev pub invariant-loop-one : goal.invariant-loop-one
invariant-loop-one l =
    record {
      settles :
          (s : State) → s.values.questions ≡ l.initial.values.questions
          → (done : List Effect) × (l.effects.items ≡ l.initial.effects.items ++ done)
          × ((out : Result Done PeerFault) → SettleTied (settling s l.values.promises l.exports l.settled.items) l.outcome (drop l.one-index l.tied) out
          → SettleTied (settling s l.initial.values.promises l.initial.exports []) l.outcome l.tied (prefixed done out));
      promises : ◌≡◌ {A = ValueMaps} l.values (record l.initial.values { promises = l.values.promises });
      reopens : reopened l.values.promises l.settled.items ≡ l.initial.values.promises;
      unsettled : AreOpenOnce l.values.promises (drop l.one-index l.tied);
      ends : AllEnd l.values (caps_of l.outcome);
      lowers : lowered_back l.exports (raised_by l.settled.items) ≡ l.initial.exports;
    }
