use Rattle.std.proofs.Common.{drop}
use Rattle.cp_connection.specs.Link.{Link}
use Rattle.cp_dispatch.specs.Work.{Work, GivesUp}
use Rattle.cp_dispatch.specs.WorkOf.{work_of}
use Rattle.cp_dispatch.proofs.dispatcher.Dispatcher.give_up.Given as goal

-- what is left to be given up, after what was, is all
abbrev pub invariant-loop-import : goal.invariant-loop-import
invariant-loop-import l =
    (link : Link) (last : Work) → GivesUp (drop l.import-index l.import-items) (work_of l.self link) last → GivesUp l.import-items (work_of l.fn.self link) last
