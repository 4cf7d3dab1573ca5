use Rattle.std.proofs.Common.{◌≤◌}
use Rattle.cp_tree.specs.Node.{row_of}
use Rattle.cp_canonical.specs.Cut.{used_ptrs}
use Rattle.cp_canonical.proofs.used.used_ptrs.Given as goal

-- none from here on is used
abbrev pub invariant-loop-i : goal.invariant-loop-i
invariant-loop-i l = used_ptrs (row_of l.view) ≤ l.i
