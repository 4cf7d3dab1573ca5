use Rattle.std.proofs.Common.{◌≡◌, ◌++◌, map, take, drop}
use Rattle.cp_objects.specs.Promises.{meant}
use Rattle.cp_objects.proofs.promises.Promises.meant_each.Given as goal

-- those before the index are renamed, and the others are as they were
abbrev pub invariant-loop-cap : goal.invariant-loop-cap
invariant-loop-cap l = l.cap-items ≡ map (meant l.self.ids) (take l.cap-index l.fn.caps) ++ drop l.cap-index l.fn.caps
