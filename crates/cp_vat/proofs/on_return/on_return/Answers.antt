use Rattle.std.proofs.Common.{[], Ok, sym, append-nil}
use Rattle.std.proofs.lemmas.Result.{err_from_is_err_and}
use Rattle.cp_rpc.specs.Viewed.{viewed_returned}
use Rattle.cp_vat_state.specs.StateOf.{state_of}
use Rattle.cp_vat.specs.Receiving.{Begins, bears}
use Rattle.cp_vat.specs.declared.on_return.Remaining.TheVariants as rests
use Rattle.cp_vat.proofs.Ready.{returned_may}
use Rattle.cp_vat.proofs.Returning.{begins_at_fault, returns_settled, returns_at_fault}
use Rattle.cp_vat.proofs.on_return.on_return.Goals as goal

pub returns-in_err-begin : goal.returns-in_err-begin
returns-in_err-begin g c =
    let p = err_from_is_err_and c.from_residual.result c.from_residual.ensures.1 in
    let r = bears c.args.id c.args.release_param_caps (viewed_returned g.S.Source.seen c.args.returned.now) in
    rw (p.1, p.2) (begins_at_fault (state_of c.args.core.now) r _ _ _ _ _ (c.in_err-begin.ensures r.returned))

pub returns-in_err-outcome-in-Settle : goal.returns-in_err-outcome-in-Settle
returns-in_err-outcome-in-Settle g c =
    let p = err_from_is_err_and c.from_residual-in_err-outcome-in-Settle.result c.from_residual-in_err-outcome-in-Settle.ensures.1 in
    let r = bears c.args.id c.args.release_param_caps (viewed_returned g.S.Source.seen c.args.returned.now) in
    let begun : Begins (state_of c.args.core.now) r (Ok (rests.Settle c.in-Settle.forwards)) (state_of c.begin.new.core) = rw c.in-Settle.is at c.in_ok-begin.ensures r.returned in
    rw (p.1, p.2) (returns_at_fault (state_of c.args.core.now) (state_of c.begin.new.core) r c.in-Settle.forwards begun.1 _ _ _ _ _ c.in_err-outcome-in-Settle.ensures)

pub returns-in-Nothing : goal.returns-in-Nothing
returns-in-Nothing g c =
    let r = bears c.args.id c.args.release_param_caps (viewed_returned g.S.Source.seen c.args.returned.now) in
    ([], sym (append-nil c.args.effects.now.items), rw c.in-Nothing.is at c.in_ok-begin.ensures r.returned)

pub returns-in_ok-outcome-in-Settle : goal.returns-in_ok-outcome-in-Settle
returns-in_ok-outcome-in-Settle g c =
    let r = bears c.args.id c.args.release_param_caps (viewed_returned g.S.Source.seen c.args.returned.now) in
    let begun : Begins (state_of c.args.core.now) r (Ok (rests.Settle c.in-Settle.forwards)) (state_of c.begin.new.core) = rw c.in-Settle.is at c.in_ok-begin.ensures r.returned in
    returns_settled (state_of c.args.core.now) (state_of c.begin.new.core) r c.in-Settle.forwards begun.1 (state_of c.receive_returned.new.core)
    c.in_ok-outcome-in-Settle.outcome c.in_ok-outcome-in-Settle.ensures _ _ _ _ c.settle.ensures

pub settle-requires : goal.settle-requires
settle-requires g c =
    let r = bears c.args.id c.args.release_param_caps (viewed_returned g.S.Source.seen c.args.returned.now) in
    let begun : Begins (state_of c.args.core.now) r (Ok (rests.Settle c.in-Settle.forwards)) (state_of c.begin.new.core) = rw c.in-Settle.is at c.in_ok-begin.ensures r.returned in
    returned_may (state_of c.begin.new.core) (state_of c.receive_returned.new.core) r.answer_id c.in-Settle.forwards r.returned c.in_ok-outcome-in-Settle.outcome begun.0 c.in_ok-outcome-in-Settle.ensures
