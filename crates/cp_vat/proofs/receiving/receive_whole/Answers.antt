use Rattle.std.proofs.lemmas.Result.{err_from_is_err_and}
use Rattle.cp_rpc.specs.Viewed.{viewed}
use Rattle.cp_vat_machine.specs.Step.{Receives}
use Rattle.cp_vat_state.specs.StateOf.{state_of}
use Rattle.cp_vat.proofs.Lending.{lends_fault}
use Rattle.cp_vat.proofs.receiving.receive_whole.Goals as goal

pub returns-in_err-receive : goal.returns-in_err-receive
returns-in_err-receive c =
    let p = err_from_is_err_and c.from_residual.result c.from_residual.ensures.1 in
    let Rule = Receives (state_of c.args.core.now) (viewed c.args.message.now) in
    rw (p.1, p.2) (lends_fault Rule Rule c.in_err-receive.field-0.0 c.args.effects.now.items c.receive.new.effects.items (state_of c.receive.new.core) (λ out h. h) c.in_err-receive.ensures)
