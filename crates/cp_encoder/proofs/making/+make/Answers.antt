use Rattle.std.proofs.Common.{rules}
use Rattle.cp_tree.specs.NodeOf.{node_of, body_of}
use Rattle.cp_encoder.specs.Values.{value_node, fields_body}
use Rattle.cp_encoder.proofs.Rows.{row_next, pointer_next}
use Rattle.cp_encoder.proofs.making.+make.Goals as goal

pub trees_of-loop-value-preserved : goal.trees_of-loop-value-preserved
trees_of-loop-value-preserved t c =
    let l = c.loop-value in
    row_next node_of value_node l.trees.items _ c.args.values.now l.value-index _ c.value-item.result _ (search (rules)) c.value-item.is c.in_ok-push.ensures.items c.in_ok-tree_of.ensures l.invariant

pub bodies_of-loop-fields-preserved : goal.bodies_of-loop-fields-preserved
bodies_of-loop-fields-preserved t c =
    let l = c.loop-fields in
    row_next body_of fields_body l.bodies.items _ c.args.items.now l.fields-index _ c.fields-item.result _ (search (rules)) c.fields-item.is c.in_ok-push.ensures.items c.in_ok-body_of.ensures l.invariant

pub pointers_of-loop-pointer-preserved : goal.pointers_of-loop-pointer-preserved
pointers_of-loop-pointer-preserved t c =
    let l = c.loop-pointer in
    pointer_next l.trees.items _ c.args.given.now l.pointer-index c.pointer-item.result _ (search (rules)) c.pointer-item.is c.set_pointer.ensures l.invariant
