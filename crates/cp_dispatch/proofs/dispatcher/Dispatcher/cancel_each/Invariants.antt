use Rattle.cp_dispatch.specs.Work.{Work, Lives}
use Rattle.cp_dispatch.specs.GivingUp.{CancelsEach}
use Rattle.cp_dispatch.specs.WorkOf.{work_of}
use Rattle.cp_dispatch.proofs.dispatcher.Dispatcher.cancel_each.Given as goal

-- the calls that are left, after those that were given up, are all
abbrev pub invariant-loop : goal.invariant-loop
invariant-loop g l =
    ((last : Work) (others : g.row.H.Denot) → CancelsEach g.H.ObjectTable.table (work_of l.self l.connection) last l.objects others
    → CancelsEach g.H.ObjectTable.table (work_of l.fn.self l.fn.connection) last l.fn.objects others)
    × Lives l.fn.connection l.connection
