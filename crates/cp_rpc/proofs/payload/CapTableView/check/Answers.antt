use Rattle.std.proofs.lemmas.Result.{err_from_is_err_and}
use Rattle.cp_tree.specs.Node.{null}
use Rattle.cp_messages.specs.Fields.{items_of}
use Rattle.cp_messages.specs.Faults.{descriptor_faults}
use Rattle.cp_rpc.proofs.Firsts.{part-first}
use Rattle.cp_rpc.proofs.payload.CapTableView.check.Goals as goal

pub returns-in_err-check : goal.returns-in_err-check
returns-in_err-check g c =
    let p = err_from_is_err_and c.from_residual.result c.from_residual.ensures.1 in
    let items = items_of (g.S.Source.seen c.args.source.now) in
    rw (p.1, p.2) (part-first descriptor_faults items c.loop-i.i null _ (rw c.item_count-i-end.ensures at c.loop-i-test.true) c.loop-i.invariant (rw c.item.ensures.item at c.in_err-check.ensures))
