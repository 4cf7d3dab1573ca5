use Rattle.std.proofs.Common.{drop}
use Rattle.cp_connection.specs.Link.{Link}
use Rattle.cp_dispatch.specs.Dropping.{ForgetsEach}
use Rattle.cp_dispatch.specs.Work.{Lives}
use Rattle.cp_dispatch.proofs.idle.forget_each.Given as goal

-- what is done with the others, after those that were looked at, is done with all
abbrev pub invariant-loop-id : goal.invariant-loop-id
invariant-loop-id g l =
    ((last : Link) (others : g.row.H.Denot) → ForgetsEach g.H.ObjectTable.table (drop l.id-index l.ids) l.connection last l.objects others
    → ForgetsEach g.H.ObjectTable.table l.ids l.fn.connection last l.fn.objects others)
    × Lives l.fn.connection l.connection
