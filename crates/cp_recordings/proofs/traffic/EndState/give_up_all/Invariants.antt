use Rattle.std.proofs.Common.{◌≡◌, take}
use Rattle.cp_recordings.specs.Traffic.{giving_up_all}
use Rattle.cp_recordings.proofs.traffic.EndState.give_up_all.Given as goal

abbrev pub invariant-loop-i : goal.invariant-loop-i
invariant-loop-i l = l.self ≡ giving_up_all l.initial.self (take l.i l.ids)
