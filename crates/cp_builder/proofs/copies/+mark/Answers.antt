use Rattle.std.proofs.Common.{arith}
use Rattle.cp_builder.proofs.Copied.{marks-tree, marks-body}
use Rattle.cp_builder.proofs.copies.+mark.Goals as goal

pub mark_row-loop-tree-preserved : goal.mark_row-loop-tree-preserved
mark_row-loop-tree-preserved t c =
    let l = c.loop-tree in
    marks-tree c.args.trees.now l.tree-index c.tree-item.result c.args.marks.now.items l.marks.items c.mark_named.new.marks.items (omega arith) c.tree-item.is l.invariant c.mark_named.ensures

pub mark_bodies-loop-body-preserved : goal.mark_bodies-loop-body-preserved
mark_bodies-loop-body-preserved t c =
    let l = c.loop-body in
    let this = rw (c.deref.ensures.value) at c.mark_row.ensures in
    marks-body c.args.items.now l.body-index c.body-item.result c.args.marks.now.items l.marks.items c.mark_row.new.marks.items (omega arith) c.body-item.is l.invariant this
