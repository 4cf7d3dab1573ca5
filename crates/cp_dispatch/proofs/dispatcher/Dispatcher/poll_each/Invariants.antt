use Rattle.std.proofs.Common.{Bool, ◌||◌}
use Rattle.cp_dispatch.specs.Work.{Work, Lives}
use Rattle.cp_dispatch.specs.Rounds.{PollsFrom}
use Rattle.cp_dispatch.specs.WorkOf.{work_of}
use Rattle.cp_dispatch.proofs.dispatcher.Dispatcher.poll_each.Given as goal

-- what polls the others, after those that were polled, polls all
abbrev pub invariant-loop : goal.invariant-loop
invariant-loop g l =
    ((more : Bool) (last : Work) (others : g.row.H.Denot) → PollsFrom g.H.ObjectTable.table l.from (work_of l.self l.connection) more last l.objects others
    → PollsFrom g.H.ObjectTable.table 0 (work_of l.fn.self l.fn.connection) (l.gave || more) last l.fn.objects others)
    × Lives l.fn.connection l.connection
