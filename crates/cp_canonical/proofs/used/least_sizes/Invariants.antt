use Rattle.std.proofs.Common.{◌≡◌, max}
use Rattle.cp_reading.specs.Rows.{bodies_in}
use Rattle.cp_canonical.specs.Cut.{most_ptrs, most_words}
use Rattle.cp_canonical.proofs.Rows.{drop_bodies}
use Rattle.cp_canonical.proofs.used.least_sizes.Given as goal

-- the most so far, with the most of the rest, is the most of all
abbrev pub invariant-loop-i : goal.invariant-loop-i
invariant-loop-i l =
    record {
      words : max l.words (most_words (drop_bodies l.i (bodies_in l.view))) ≡ most_words (bodies_in l.view);
      ptrs : max l.ptrs (most_ptrs (drop_bodies l.i (bodies_in l.view))) ≡ most_ptrs (bodies_in l.view);
    }
