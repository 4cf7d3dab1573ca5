use Rattle.std.proofs.Common.{◌<◌, ◌≤◌, arith, sym, subst, ◌∙◌}
use Rattle.cp_tree.specs.Node.{IsStruct, count, number_of, depth, row_of}
use Rattle.cp_reading.specs.Rows.{bodies_in}
use Rattle.cp_reading.proofs.Builds.{part-struct, struct-shape, pointers-shape, row_nests, element_nests}
use Rattle.cp_lines.proofs.notation.+tree.Goals as goal

pub elements-unreachable-requires : goal.elements-unreachable-requires
elements-unreachable-requires t c =
    let within : c.loop-i.i < number_of (bodies_in c.args.view.now) = omega arith in
    let is_struct = subst IsStruct (sym c.child-element.ensures) (part-struct c.args.view.now c.loop-i.i within) in
    c.in_default.not-Struct _ _ (c.shape.ensures.is ∙ (struct-shape c.child-element.result is_struct).1)

pub elements-body-requires : goal.elements-body-requires
elements-body-requires t c =
    let within : c.loop-i.i < number_of (bodies_in c.args.view.now) = omega arith in
    let is_struct = subst IsStruct (sym c.child-element.ensures) (part-struct c.args.view.now c.loop-i.i within) in
    let nests : depth c.child-element.result ≤ depth c.args.view.now = rw c.child-element.ensures (element_nests c.args.view.now c.loop-i.i within) in
    (omega arith, (is_struct, pointers-shape c.child-element.result _ _ is_struct c.in-Struct.ensures.is))

pub row-tree-requires : goal.row-tree-requires
row-tree-requires t c =
    let within : c.loop-i.i < count (row_of c.args.view.now) = omega arith in
    let nests : depth c.child.result < depth c.args.view.now = rw c.child.ensures (row_nests c.args.view.now c.loop-i.i within) in
    (omega arith, tt)
