use Rattle.std.proofs.Common.{take}
use Rattle.cp_servants.specs.Servant.{NoneSaysMore}
use Rattle.cp_servants.proofs.placed.any_has_more.Given as goal

-- none of the objects that were asked has more
abbrev pub invariant-loop-object : goal.invariant-loop-object
invariant-loop-object g l = NoneSaysMore g.O.Servant.kind (take l.object-index l.objects)
