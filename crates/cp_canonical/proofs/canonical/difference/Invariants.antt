use Rattle.std.proofs.Common.{◌≡◌, take}
use Rattle.cp_canonical.proofs.canonical.difference.Given as goal

-- the words so far are the same
abbrev pub invariant-loop-i : goal.invariant-loop-i
invariant-loop-i l = take l.i l.words ≡ take l.i l.others
