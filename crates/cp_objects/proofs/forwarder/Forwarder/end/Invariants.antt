use Rattle.std.proofs.Common.{◌≡◌}
use Rattle.std.specs.FinMap.{entries}
use Rattle.cp_objects.specs.Context.{context_of}
use Rattle.cp_objects.specs.Forwarding.{failing_each}
use Rattle.cp_objects.proofs.forwarder.Forwarder.end.Given as goal

-- once the others failed, after those that did, all did
abbrev pub invariant-loop-caller : goal.invariant-loop-caller
invariant-loop-caller g l = failing_each l.caller-iterator (context_of l.context) ≡ failing_each (entries l.self.calls.callers) (context_of l.fn.context)
