use Rattle.std.proofs.Common.{◌≡◌}
use Rattle.cp_objects.specs.Context.{context_of}
use Rattle.cp_objects.specs.Forwarding.{letting_go_each, placed}
use Rattle.cp_objects.proofs.forwarder.Forwarder.let_go_each.Given as goal

-- once the others are let go, after those that were, all are
abbrev pub invariant-loop-key : goal.invariant-loop-key
invariant-loop-key g l =
    letting_go_each l.key-iterator.rest.items (placed l.self (context_of l.context)) ≡ letting_go_each l.fn.keys.items (placed l.fn.self (context_of l.fn.context))
