use Rattle.std.proofs.Common.{◌≡◌, take}
use Rattle.cp_recordings.specs.Traffic.{hosted}
use Rattle.cp_recordings.proofs.traffic.hosted.Given as goal

abbrev pub invariant-loop-i : goal.invariant-loop-i
invariant-loop-i l = l.ids ≡ hosted (take l.i l.table)
