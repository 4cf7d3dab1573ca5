use Rattle.std.proofs.Common.{◌≡◌, drop}
use Rattle.cp_servants.specs.Outcomes.{named_after, named_imports}
use Rattle.cp_servants.proofs.outcomes.named_imports.Given as goal

abbrev pub invariant-loop-cap : goal.invariant-loop-cap
invariant-loop-cap l = named_after l.named.items (drop l.cap-index l.cap-items) ≡ named_imports l.cap-items
