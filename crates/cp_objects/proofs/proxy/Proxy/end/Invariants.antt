use Rattle.std.proofs.Common.{◌≡◌}
use Rattle.std.specs.FinMap.{entries}
use Rattle.cp_objects.specs.Context.{context_of}
use Rattle.cp_objects.specs.Proxying.{giving_up_each}
use Rattle.cp_objects.proofs.proxy.Proxy.end.Given as goal

-- once the others are given up, after those that were, all are
abbrev pub invariant-loop-ticket : goal.invariant-loop-ticket
invariant-loop-ticket g l =
    giving_up_each l.self.target l.ticket-iterator (context_of l.context) ≡ giving_up_each l.self.target (entries l.self.pending) (context_of l.fn.context)
