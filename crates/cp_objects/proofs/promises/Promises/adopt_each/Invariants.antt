use Rattle.std.proofs.Common.{◌≡◌, drop}
use Rattle.cp_objects.specs.Promises.{adopted_each, promised_of}
use Rattle.cp_objects.proofs.promises.Promises.adopt_each.Given as goal

-- once the others have numbers, after those that do, all have
abbrev pub invariant-loop-cap : goal.invariant-loop-cap
invariant-loop-cap l = adopted_each (drop l.cap-index l.cap-items) (promised_of l.self, l.free) ≡ adopted_each l.cap-items (promised_of l.fn.self, l.fn.next)
