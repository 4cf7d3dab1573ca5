use Rattle.std.proofs.Common.{◌≡◌, take}
use Rattle.cp_refs.proofs.cap.Caps.copy.Given as goal

abbrev pub invariant-loop-cap : goal.invariant-loop-cap
invariant-loop-cap l = l.copied.items ≡ take l.cap-index l.caps
