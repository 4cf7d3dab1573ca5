use Rattle.std.proofs.Common.{length}
use Rattle.c_handles.specs.Kept.{IsCounted}
use Rattle.c_handles.proofs.check.check_all.Given as goal

abbrev pub invariant-reading : goal.invariant-reading
invariant-reading l = IsCounted l.fn.limits l.fn.mode l.kind l.bytes l.reader l.frames l.left

abbrev pub decreases-reading : goal.decreases-reading
decreases-reading l = length l.left
