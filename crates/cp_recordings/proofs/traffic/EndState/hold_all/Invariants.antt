use Rattle.std.proofs.Common.{◌≡◌, take}
use Rattle.cp_recordings.specs.Traffic.{holding_all}
use Rattle.cp_recordings.proofs.traffic.EndState.hold_all.Given as goal

abbrev pub invariant-loop-i : goal.invariant-loop-i
invariant-loop-i l = l.self ≡ holding_all l.initial.self (take l.i l.ids) l.source
