use Rattle.std.proofs.Common.{◌≡◌, ◌<◌, ℕ, get_or}
use Rattle.cp_tree.specs.NodeOf.{node_of}
use Rattle.cp_tree.specs.declared.tree.Tree.{Tree}
use Rattle.cp_tree.specs.declared.tree.Body.{Body}
use Rattle.cp_builder.specs.Copies.{placed}
use Rattle.cp_builder.proofs.Copied.{BodyPlaced}
use Rattle.cp_builder.proofs.copies.+place.Given as goal

abbrev pub invariant-place_row-loop-i : goal.invariant-place_row-loop-i
invariant-place_row-loop-i l =
    ((k : ℕ) (d : Tree) → k < l.i → node_of (get_or l.trees.items k d) ≡ placed l.places (node_of (get_or l.initial.trees.items k d)))
    × goal.unvisited-place_row-loop-i l

abbrev pub invariant-place_bodies-loop-i : goal.invariant-place_bodies-loop-i
invariant-place_bodies-loop-i l =
    ((k : ℕ) (d : Body) → k < l.i → BodyPlaced l.places (get_or l.items.items k d) (get_or l.initial.items.items k d))
    × goal.unvisited-place_bodies-loop-i l
