use Rattle.std.proofs.Common.{ap}
use Rattle.cp_tree.specs.NodeOf.{nodes_of, bodies_of}
use Rattle.cp_refs.proofs.Measuring.{row_goes_on, bodies_go_on, row_ends, bodies_end}
use Rattle.cp_refs.proofs.memory.+memory.Goals as goal

pub row_memory-loop-tree-preserved : goal.row_memory-loop-tree-preserved
row_memory-loop-tree-preserved t c =
    let l = c.loop-tree in
    row_goes_on _ _ _ _ l.bytes c.saturating_add-bytes.result c.tree_memory.result c.saturating_add-placed.result (ap nodes_of c.in-Some.ensures.steps) c.tree_memory.ensures c.saturating_add-placed.ensures c.saturating_add-bytes.ensures l.invariant

pub row_memory-returns : goal.row_memory-returns
row_memory-returns t c =
    let l = c.loop-tree in
    row_ends _ _ l.bytes (ap nodes_of c.in-None.ensures.steps) l.invariant

pub bodies_memory-loop-body-preserved : goal.bodies_memory-loop-body-preserved
bodies_memory-loop-body-preserved t c =
    let l = c.loop-body in
    bodies_go_on _ _ _ _ _ l.bytes c.saturating_add-bytes.result c.struct_memory.result c.saturating_add-placed.result (ap bodies_of c.in-Some.ensures.steps) c.struct_memory.ensures c.saturating_add-placed.ensures c.saturating_add-bytes.ensures l.invariant

pub bodies_memory-returns : goal.bodies_memory-returns
bodies_memory-returns t c =
    let l = c.loop-body in
    bodies_end _ _ l.bytes (ap bodies_of c.in-None.ensures.steps) l.invariant
