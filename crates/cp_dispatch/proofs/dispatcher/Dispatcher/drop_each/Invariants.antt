use Rattle.std.proofs.Common.{drop}
use Rattle.cp_dispatch.specs.Dropping.{LosesEach}
use Rattle.cp_dispatch.specs.Work.{Work, Lives}
use Rattle.cp_dispatch.specs.WorkOf.{work_of}
use Rattle.cp_dispatch.proofs.dispatcher.Dispatcher.drop_each.Given as goal

-- what is done with the others, after those that were looked at, is done with all
abbrev pub invariant-loop-number : goal.invariant-loop-number
invariant-loop-number g l =
    ((last : Work) (others : g.row.H.Denot) → LosesEach g.H.ObjectTable.table (drop l.number-index l.numbers) (work_of l.self l.connection) last l.objects others
    → LosesEach g.H.ObjectTable.table l.numbers (work_of l.fn.self l.fn.connection) last l.fn.objects others)
    × Lives l.fn.connection l.connection
