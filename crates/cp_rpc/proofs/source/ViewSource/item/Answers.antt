use Rattle.std.proofs.Common.{◌∙◌, sym, ap, subst, arith}
use Rattle.cp_messages.specs.Fields.{IsStructField}
use Rattle.cp_rpc.proofs.Items.{item-shape, item-struct, part-item, count_in}
use Rattle.cp_rpc.proofs.source.ViewSource.item.Goals as goal

pub prove-unreachable-requires : goal.prove-unreachable-requires
prove-unreachable-requires c =
    let s = item-shape c.args.self.now c.args.i c.requires in
    let counted = ap count_in (sym c.in-Structs.is ∙ c.shape.ensures.is ∙ s.2) in
    omega (arith, counted, c.requires, c.if-prove.true)

pub returns : goal.returns
returns c =
    let e = c.child.ensures ∙ part-item c.args.self.now c.args.i c.requires in
    record { item = e; is_struct = subst IsStructField (sym e) (item-struct c.args.self.now c.args.i c.requires) }
