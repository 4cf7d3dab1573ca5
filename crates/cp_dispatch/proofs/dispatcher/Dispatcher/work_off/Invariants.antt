use Rattle.cp_dispatch.specs.Work.{Work, Lives}
use Rattle.cp_dispatch.specs.Rounds.{WorksOff}
use Rattle.cp_dispatch.specs.WorkOf.{work_of}
use Rattle.cp_dispatch.proofs.dispatcher.Dispatcher.work_off.Given as goal

-- what works the rest off works all off
abbrev pub invariant-loop : goal.invariant-loop
invariant-loop g l =
    ((last : Work) (others : g.row.H.Denot) → WorksOff g.H.ObjectTable.table (work_of l.self l.connection) last l.objects others
    → WorksOff g.H.ObjectTable.table (work_of l.fn.self l.fn.connection) last l.fn.objects others)
    × Lives l.fn.connection l.connection
