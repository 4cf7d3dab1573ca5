use Rattle.std.proofs.Common.{◌≡◌, take}
use Rattle.cp_refs.specs.Values.{ValueMaps}
use Rattle.cp_vat_rules.specs.Settling.{lowered_back, raised_by, reopened}
use Rattle.cp_vat_rules.proofs.settle.take_back.Given as goal

-- what is left takes back from now on what all take back from the start
abbrev pub invariant-loop-index : goal.invariant-loop-index
invariant-loop-index l =
    record {
      values : ◌≡◌ {A = ValueMaps} (record l.initial.values { promises = reopened l.initial.values.promises l.settled }) (record l.values { promises = reopened l.values.promises (take l.index l.settled) });
      exports : lowered_back l.initial.exports (raised_by l.settled) ≡ lowered_back l.exports (raised_by (take l.index l.settled));
    }
