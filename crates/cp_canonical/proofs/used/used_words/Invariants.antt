use Rattle.std.proofs.Common.{◌≤◌}
use Rattle.cp_canonical.specs.Cut.{used_words}
use Rattle.cp_canonical.proofs.used.used_words.Given as goal

-- none from here on is used
abbrev pub invariant-loop-i : goal.invariant-loop-i
invariant-loop-i l = used_words l.words ≤ l.i
