use Rattle.std.proofs.Common.{arith}
use Rattle.std.proofs.lemmas.Result.{err_from_is_err_and}
use Rattle.cp_vat_machine.specs.Supported.{is_supported_descriptor}
use Rattle.cp_vat_machine.specs.Receiving.{ReceivesCap, ReceivesCaps}
use Rattle.cp_vat_state.specs.StateOf.{state_of}
use Rattle.cp_vat_rules.proofs.Saying.{leaves_err, each_step, each_fails, each_done, each_holds}
use Rattle.cp_vat_rules.proofs.receive.receive_caps.Goals as goal

pub receive_cap-requires : goal.receive_cap-requires
receive_cap-requires c = each_holds is_supported_descriptor c.args.table.now c.loop-descriptor.descriptor-index c.descriptor-item.result c.requires c.loop-descriptor-test.true c.descriptor-item.is

pub returns-in_err-receive_cap : goal.returns-in_err-receive_cap
returns-in_err-receive_cap c =
    let p = err_from_is_err_and c.from_residual-in_err-receive_cap.result c.from_residual-in_err-receive_cap.ensures.1 in
    let old = state_of c.args.core.now in
    let now = state_of c.loop-descriptor.core in
    rw (p.1, p.2)
    (leaves_err (ReceivesCap now c.descriptor-item.result) (ReceivesCaps old c.args.table.now) _ _ _ (λ f r. each_fails ReceivesCap old now c.args.table.now c.loop-descriptor.descriptor-index c.loop-descriptor.caps.items c.loop-descriptor.invariant c.descriptor-item.result f c.loop-descriptor-test.true c.descriptor-item.is r) c.in_err-receive_cap.ensures)

pub loop-descriptor-preserved : goal.loop-descriptor-preserved
loop-descriptor-preserved c out rest =
    let old = state_of c.args.core.now in
    let now = state_of c.loop-descriptor.core in
    each_step ReceivesCap old now c.args.table.now c.loop-descriptor.descriptor-index c.loop-descriptor.caps.items c.loop-descriptor.invariant c.descriptor-item.result c.in_ok-receive_cap.field-0 c.add.new.list.items (state_of c.receive_cap.new.core) c.loop-descriptor-test.true c.descriptor-item.is c.in_ok-receive_cap.ensures c.in_ok-add.ensures out rest

pub returns : goal.returns
returns c =
    let old = state_of c.args.core.now in
    let now = state_of c.loop-descriptor.core in
    rw c.new.ensures (each_done ReceivesCap old now c.args.table.now c.loop-descriptor.descriptor-index c.loop-descriptor.caps.items c.loop-descriptor.invariant (omega (arith, c.loop-descriptor-test.false)))
