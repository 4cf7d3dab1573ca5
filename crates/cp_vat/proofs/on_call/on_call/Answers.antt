use Rattle.std.proofs.lemmas.Result.{err_from_is_err_and}
use Rattle.cp_vat_machine.specs.Answering.{OnCall}
use Rattle.cp_vat_machine.specs.Go.{Go}
use Rattle.cp_vat_state.specs.StateOf.{state_of}
use Rattle.cp_vat.specs.Arriving.{bearing}
use Rattle.cp_vat.specs.Receiving.{with_content}
use Rattle.cp_vat.proofs.Acting.{acts_by}
use Rattle.cp_vat.proofs.Entering.{none_taken}
use Rattle.cp_vat.proofs.on_call.on_call.Goals as goal

pub returns-in_err-arrival : goal.returns-in_err-arrival
returns-in_err-arrival g c =
    let p = err_from_is_err_and c.from_residual.result c.from_residual.ensures.1 in
    rw (p.1, p.2) (none_taken (state_of c.args.core.now) (state_of c.arrive.new.core) c.args.call (g.S.Source.seen c.args.content.now) c.in_err-arrival.field-0.0 c.args.effects.now.items c.args.effects.now.items c.in_err-arrival.ensures)

pub go_on-requires : goal.go_on-requires
go_on-requires g c = c.in_ok-arrival.ensures.0 _

pub returns : goal.returns
returns g c =
    let t = g.S.Source.seen c.args.content.now in
    let s = state_of c.arrive.new.core in
    acts_by (Go s (bearing c.args.call c.in_ok-arrival.arrival t) c.in_ok-arrival.arrival.route) (OnCall (state_of c.args.core.now) (with_content c.args.call t)) c.go_on.result _ _ _
    (c.in_ok-arrival.ensures.1 t) c.go_on.ensures
