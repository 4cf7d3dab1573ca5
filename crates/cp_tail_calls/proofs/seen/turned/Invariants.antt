use Rattle.std.proofs.Common.{◌≡◌, ◌++◌, map, take, drop}
use Rattle.cp_tail_calls.specs.Seen.{other_way}
use Rattle.cp_tail_calls.proofs.seen.turned.Given as goal

-- those before the index are turned, and once the others are, all are
abbrev pub invariant-loop-descriptor : goal.invariant-loop-descriptor
invariant-loop-descriptor l =
    take l.descriptor-index l.descriptor-items ++ map other_way (drop l.descriptor-index l.descriptor-items) ≡ map other_way l.fn.table
