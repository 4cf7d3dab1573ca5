use Rattle.std.proofs.Common.{◌≡◌, ◌++◌}
use Rattle.std.specs.FinMap.{entries}
use Rattle.cp_objects.specs.Objects.{due_among}
use Rattle.cp_objects.proofs.objects.Objects.due.Given as goal

-- those that were found, before those of the rest, are all
abbrev pub invariant-loop-number : goal.invariant-loop-number
invariant-loop-number g l = l.due.items ++ due_among l.now l.number-iterator ≡ due_among l.now (entries l.self.members)
