use Rattle.cp_dispatch.specs.Dropping.{MakesLast}
use Rattle.cp_dispatch.specs.Work.{Work, Lives}
use Rattle.cp_dispatch.specs.WorkOf.{work_of}
use Rattle.cp_dispatch.proofs.dispatcher.Dispatcher.make_last_calls.Given as goal

-- the calls that are left, after those that were made, are all
abbrev pub invariant-loop : goal.invariant-loop
invariant-loop g l =
    ((last : Work) (others : g.row.H.Denot) → MakesLast g.H.ObjectTable.table l.number l.next_calls (work_of l.self l.connection) last l.objects others
    → MakesLast g.H.ObjectTable.table l.number l.fn.next_calls (work_of l.fn.self l.fn.connection) last l.fn.objects others)
    × Lives l.fn.connection l.connection
