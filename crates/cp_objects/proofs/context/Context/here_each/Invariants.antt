use Rattle.std.proofs.Common.{◌≡◌, ◌++◌, drop}
use Rattle.cp_objects.specs.Context.{caps_here, context_of, hereby_each}
use Rattle.cp_objects.proofs.context.Context.here_each.Given as goal

-- those that were named, before those of the rest, are all
abbrev pub invariant-loop-one : goal.invariant-loop-one
invariant-loop-one g l = record {
  named : l.caps.items ++ caps_here (drop l.one-index l.one-items) (context_of l.self) ≡ caps_here l.one-items (context_of l.fn.self);
  noted : hereby_each (drop l.one-index l.one-items) (context_of l.self) ≡ hereby_each l.one-items (context_of l.fn.self);
}
