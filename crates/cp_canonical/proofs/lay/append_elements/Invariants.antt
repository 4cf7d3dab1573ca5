use Rattle.std.proofs.Common.{◌≡◌, ◌++◌}
use Rattle.cp_reading.specs.Rows.{bodies_in}
use Rattle.cp_canonical.specs.Arenas.{IsArena, elements_blank}
use Rattle.cp_canonical.proofs.Rows.{drop_bodies}
use Rattle.cp_canonical.proofs.lay.append_elements.Given as goal

-- the words so far, with those of the rest, are all
abbrev pub invariant-loop-i : goal.invariant-loop-i
invariant-loop-i l =
    record {
      words : l.arena.words.items ++ elements_blank l.of.words l.of.ptrs (drop_bodies l.i (bodies_in l.view)) ≡ l.initial.arena.words.items ++ elements_blank l.of.words l.of.ptrs (bodies_in l.view);
      arena : IsArena l.arena;
      most : l.arena.most ≡ l.initial.arena.most;
    }
