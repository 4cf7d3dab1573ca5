use Rattle.std.proofs.Common.{◌≡◌, ◌++◌, drop}
use Rattle.cp_objects.specs.Context.{context_of, shared_each, sharing_each}
use Rattle.cp_objects.proofs.context.Context.share_each.Given as goal

-- those that were shared, before those of the rest, are all
abbrev pub invariant-loop-cap : goal.invariant-loop-cap
invariant-loop-cap g l = record {
  shared : l.shared.items ++ shared_each (drop l.cap-index l.cap-items) (context_of l.self) ≡ shared_each l.cap-items (context_of l.fn.self);
  noted : sharing_each (drop l.cap-index l.cap-items) (context_of l.self) ≡ sharing_each l.cap-items (context_of l.fn.self);
}
