use Rattle.cp_connection.specs.Link.{Link}
use Rattle.cp_dispatch.specs.PromiseRequests.{KeepsPromiseRequests}
use Rattle.cp_dispatch.specs.Work.{Lives}
use Rattle.cp_dispatch.proofs.promise_requests.keep_promise_requests.Given as goal

-- what is done of the rest, after what was done, is all that is done
abbrev pub invariant-loop : goal.invariant-loop
invariant-loop g l =
    ((last : Link) (others : g.row.H.Denot) → KeepsPromiseRequests g.H.ObjectTable.table l.connection last l.objects others
    → KeepsPromiseRequests g.H.ObjectTable.table l.fn.connection last l.fn.objects others)
    × Lives l.fn.connection l.connection
