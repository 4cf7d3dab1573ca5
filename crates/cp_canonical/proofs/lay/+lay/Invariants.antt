use Rattle.std.proofs.Common.{◌≡◌, ◌≤◌, ◌+◌, ◌*◌, length}
use Rattle.cp_tree.specs.Node.{depth, row_of}
use Rattle.cp_reading.specs.Rows.{bodies_in}
use Rattle.cp_canonical.specs.Cut.{cut_bodies, cut_row, first_cap_in, first_cap_of, take_ptrs}
use Rattle.cp_canonical.specs.Arenas.{IsArena, with_bodies, with_row}
use Rattle.cp_canonical.proofs.Rows.{drop_bodies, drop_row}
use Rattle.cp_canonical.proofs.lay.+lay.Given as goal

-- what the rest of the trees makes of the words so far is what all make, and no capability came before
abbrev pub invariant-lay_row-loop-i : goal.invariant-lay_row-loop-i
invariant-lay_row-loop-i l =
    let all = take_ptrs l.number (cut_row (row_of l.view)) in
    record {
      words : with_row (l.first + l.i) (drop_row l.i all) l.arena.words.items ≡ with_row l.first all l.initial.arena.words.items;
      caps : first_cap_in (drop_row l.i all) ≡ first_cap_in all;
      arena : IsArena l.arena;
      most : l.arena.most ≡ l.initial.arena.most;
      longer : length l.initial.arena.words.items ≤ length l.arena.words.items;
    }

-- the same of the elements
abbrev pub invariant-lay_elements-loop-i : goal.invariant-lay_elements-loop-i
invariant-lay_elements-loop-i l =
    let all = cut_bodies l.of.words l.of.ptrs (bodies_in l.view) in
    record {
      words : with_bodies l.pointers l.of.words l.of.ptrs (drop_bodies l.i all) l.arena.words.items ≡ with_bodies l.first l.of.words l.of.ptrs all l.initial.arena.words.items;
      caps : first_cap_of (drop_bodies l.i all) ≡ first_cap_of all;
      place : l.pointers ≡ l.first + l.i * (l.of.words + l.of.ptrs);
      arena : IsArena l.arena;
      most : l.arena.most ≡ l.initial.arena.most;
      longer : length l.initial.arena.words.items ≤ length l.arena.words.items;
    }

abbrev pub decreases-lay : goal.decreases-lay
decreases-lay l = 6 * depth l.view.now + 5

abbrev pub decreases-lay_structs : goal.decreases-lay_structs
decreases-lay_structs l = 6 * depth l.view.now + 4

abbrev pub decreases-lay_struct : goal.decreases-lay_struct
decreases-lay_struct l = 6 * depth l.view.now + 3

abbrev pub decreases-lay_ptrs : goal.decreases-lay_ptrs
decreases-lay_ptrs l = 6 * depth l.view.now + 3

abbrev pub decreases-lay_elements : goal.decreases-lay_elements
decreases-lay_elements l = 6 * depth l.view.now + 2

abbrev pub decreases-lay_row : goal.decreases-lay_row
decreases-lay_row l = 6 * depth l.view.now + 1
