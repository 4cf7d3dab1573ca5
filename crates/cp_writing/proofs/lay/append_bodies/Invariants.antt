use Rattle.std.proofs.Common.{◌≡◌}
use Rattle.cp_tree.specs.NodeOf.{bodies_of}
use Rattle.cp_tree.specs.Lent.{bodies_in}
use Rattle.cp_writing.specs.Sheets.{written, append, IsWithin, SameLimits}
use Rattle.cp_writing.specs.Writing.{bodies_blank}
use Rattle.cp_writing.proofs.lay.append_bodies.Given as goal

abbrev pub invariant-loop-body : goal.invariant-loop-body
invariant-loop-body l =
    IsWithin l.arena
    × SameLimits l.initial.arena l.arena
    × (append (bodies_blank (bodies_of (bodies_in l.body-iterator))) (written l.arena) ≡ append (bodies_blank (bodies_of (bodies_in l.fn.bodies))) (written l.initial.arena))
