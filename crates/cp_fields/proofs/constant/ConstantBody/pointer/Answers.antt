use Rattle.std.proofs.Common.{sym, ap, ◌∙◌}
use Rattle.cp_fields.specs.Constants.{constant_of}
use Rattle.cp_fields.proofs.Constants.{pointee-body, node_at-map, node_at-map-past}
use Rattle.cp_fields.proofs.constant.ConstantBody.pointer.Goals as goal

pub returns-then-i-ptrs : goal.returns-then-i-ptrs
returns-then-i-ptrs c =
    pointee-body c.args.self.now c.args.i ∙ node_at-map-past _ _ c.if-i-ptrs.true

pub returns : goal.returns
returns c =
    ap constant_of c.index-ptrs-i.is ∙ sym (pointee-body c.args.self.now c.args.i ∙ node_at-map c.args.self.now.ptrs.now c.args.i c.index-ptrs-i.result c.if-i-ptrs.false)
