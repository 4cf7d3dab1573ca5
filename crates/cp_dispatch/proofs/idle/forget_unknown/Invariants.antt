use Rattle.std.proofs.Common.{drop}
use Rattle.cp_connection.specs.Link.{Link}
use Rattle.cp_dispatch.specs.Idle.{UnknownGo}
use Rattle.cp_dispatch.specs.Work.{Lives}
use Rattle.cp_dispatch.proofs.idle.forget_unknown.Given as goal

-- what is done with the others, after those that were looked at, is done with all
abbrev pub invariant-loop-id : goal.invariant-loop-id
invariant-loop-id g l =
    ((last : Link) → UnknownGo g.H.ObjectTable.table l.fn.objects (drop l.id-index l.ids) l.connection last → UnknownGo g.H.ObjectTable.table l.fn.objects l.ids l.fn.connection last)
    × Lives l.fn.connection l.connection
