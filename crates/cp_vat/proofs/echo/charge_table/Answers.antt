use Rattle.cp_rpc.specs.Viewed.{viewed_descriptor}
use Rattle.cp_vat.proofs.Lists.{enough, not_enough}
use Rattle.cp_vat.proofs.echo.charge_table.Goals as goal

pub returns-in_err-rest-2 : goal.returns-in_err-rest-2
returns-in_err-rest-2 g c =
    let d = viewed_descriptor g.S.Source.seen c.descriptor.result in
    rw c.from_residual-in_err-rest-2.ensures
    (not_enough c.args.table.now c.loop-i.i d c.args.left c.loop-i.rest (rw c.len-i-end.ensures at c.loop-i-test.true) (c.descriptor.ensures d) c.loop-i.invariant c.in_err-rest-2.ensures)

pub loop-i-preserved : goal.loop-i-preserved
loop-i-preserved g c =
    let d = viewed_descriptor g.S.Source.seen c.descriptor.result in
    enough c.args.table.now c.loop-i.i d c.args.left c.loop-i.rest c.in_ok-rest-2.rest (rw c.len-i-end.ensures at c.loop-i-test.true) (c.descriptor.ensures d) c.loop-i.invariant c.in_ok-rest-2.ensures
