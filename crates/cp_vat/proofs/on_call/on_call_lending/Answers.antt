use Rattle.std.proofs.Common.{[], sym, append-nil}
use Rattle.std.proofs.lemmas.Result.{err_from_is_err_and}
use Rattle.cp_vat_machine.specs.Go.{Go}
use Rattle.cp_vat_machine.specs.Answering.{OnCall}
use Rattle.cp_vat_state.specs.StateOf.{state_of}
use Rattle.cp_vat.specs.Arriving.{bearing}
use Rattle.cp_vat.specs.Receiving.{with_content}
use Rattle.cp_vat.proofs.Entering.{none_lent}
use Rattle.cp_vat.proofs.Lending.{lends_fault, lends_none}
use Rattle.cp_vat.proofs.on_call.on_call_lending.Goals as goal

pub returns-in_err-arrival : goal.returns-in_err-arrival
returns-in_err-arrival c =
    let p = err_from_is_err_and c.from_residual.result c.from_residual.ensures.1 in
    rw (p.1, p.2) (none_lent (state_of c.args.core.now) (state_of c.arrive.new.core) c.args.call c.args.content c.in_err-arrival.field-0.0 c.args.effects.now.items c.args.effects.now.items c.in_err-arrival.ensures)

pub go_on-requires : goal.go_on-requires
go_on-requires c = c.in_ok-arrival.ensures.0 _

pub returns-in-Deliver : goal.returns-in-Deliver
returns-in-Deliver c = ([], sym (append-nil c.args.effects.now.items), c.in_ok-arrival.ensures.1 c.args.content _ (rw c.in-Deliver.is c.lend.ensures))

pub returns-in_err-go_on : goal.returns-in_err-go_on
returns-in_err-go_on c =
    let p = err_from_is_err_and c.from_residual-in_err-go_on.result c.from_residual-in_err-go_on.ensures.1 in
    let s = state_of c.arrive.new.core in
    rw (p.1, p.2)
    (lends_fault (Go s (bearing c.args.call c.in_ok-arrival.arrival c.args.content) c.in_ok-arrival.arrival.route) (OnCall (state_of c.args.core.now) (with_content c.args.call c.args.content)) c.in_err-go_on.field-0.0 c.args.effects.now.items c.go_on.new.effects.items (state_of c.go_on.new.core)
    (c.in_ok-arrival.ensures.1 c.args.content) c.in_err-go_on.ensures)

pub returns : goal.returns
returns c =
    let s = state_of c.arrive.new.core in
    lends_none (Go s (bearing c.args.call c.in_ok-arrival.arrival c.args.content) c.in_ok-arrival.arrival.route) (OnCall (state_of c.args.core.now) (with_content c.args.call c.args.content)) _ _ _
    (c.in_ok-arrival.ensures.1 c.args.content) c.in_ok-go_on.ensures
