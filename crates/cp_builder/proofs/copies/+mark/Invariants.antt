use Rattle.std.proofs.Common.{map, take}
use Rattle.cp_tree.specs.NodeOf.{node_of, body_of, nodes_of, bodies_of}
use Rattle.cp_builder.specs.Copies.{names_one, names_in, Marks}
use Rattle.cp_builder.proofs.copies.+mark.Given as goal

abbrev pub invariant-mark_row-loop-tree : goal.invariant-mark_row-loop-tree
invariant-mark_row-loop-tree l = Marks (names_one (nodes_of (take l.tree-index (map node_of l.trees)))) l.initial.marks.items l.marks.items

abbrev pub invariant-mark_bodies-loop-body : goal.invariant-mark_bodies-loop-body
invariant-mark_bodies-loop-body l = Marks (names_in (bodies_of (take l.body-index (map body_of l.items)))) l.initial.marks.items l.marks.items
