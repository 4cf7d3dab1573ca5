use Rattle.std.proofs.Common.{rules, sym}
use Rattle.cp_fields.proofs.list.elements_in_place.Goals as goal

pub returns-then-reads_shape : goal.returns-then-reads_shape
returns-then-reads_shape c =
    let e = c.reads_shape.ensures.read c.if-reads_shape.true c.args.view (sym c.shape.ensures.is) in
    rw e (search rules)

pub returns-else-reads_shape : goal.returns-else-reads_shape
returns-else-reads_shape c =
    let e = c.reads_shape.ensures.other c.if-reads_shape.false c.args.view (sym c.shape.ensures.is) in
    rw e (search rules)
