use Rattle.std.proofs.Common.{drop}
use Rattle.cp_dispatch.specs.Work.{Work, TriesEach, Lives}
use Rattle.cp_dispatch.specs.WorkOf.{work_of}
use Rattle.cp_dispatch.proofs.dispatcher.Dispatcher.release_each.Given as goal

-- what is left to be tried, after what was tried, is all
abbrev pub invariant-loop-import : goal.invariant-loop-import
invariant-loop-import l =
    ((last : Work) → TriesEach (work_of l.self l.connection) (drop l.import-index l.imports) last → TriesEach (work_of l.fn.self l.fn.connection) l.imports last)
    × Lives l.fn.connection l.connection
