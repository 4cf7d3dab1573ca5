use Rattle.std.proofs.Common.{◌<◌, ◌≤◌, length, get_or, sym, ap, ◌∙◌}
use Rattle.cp_tree.specs.NodeOf.{node_of}
use Rattle.cp_tree.proofs.Pointees.{pointee-body, node_at-map, node_at-map-past}
use Rattle.cp_tree.proofs.tree.Body.pointer.Goals as goal

pub returns-then-i-ptrs : goal.returns-then-i-ptrs
returns-then-i-ptrs c =
    let past : length c.args.self.now.ptrs.items ≤ c.args.i = rw c.as_slice-ptrs.ensures.value at c.if-i-ptrs.true in
    pointee-body c.args.self.now c.args.i ∙ node_at-map-past _ _ past

pub returns : goal.returns
returns c =
    let within : c.args.i < length c.args.self.now.ptrs.items = rw c.as_slice-ptrs.ensures.value at c.if-i-ptrs.false in
    let item = ap (λ xs. get_or xs c.args.i c.index-ptrs-i.result) c.as_slice-ptrs.ensures.value in
    ap node_of (c.index-ptrs-i.is ∙ item) ∙ sym (pointee-body c.args.self.now c.args.i ∙ node_at-map c.args.self.now.ptrs.items c.args.i c.index-ptrs-i.result within)
