use Rattle.std.proofs.Common.{Ok, Err, refl, sym, [], inl, inr, append-nil}
use Rattle.std.proofs.lemmas.Result.{err_from_is_err_and}
use Rattle.cp_vat_machine.specs.Give.{ResolvesEnd, Tells}
use Rattle.cp_vat_machine.specs.State.{with_exports}
use Rattle.cp_vat_state.proofs.Indexing.{none_if}
use Rattle.cp_vat_rules.proofs.Giving.{settles_err}
use Rattle.cp_vat_rules.proofs.settle.tell.Goals as goal

pub returns-in_default-clause-told : goal.returns-in_default-clause-told
returns-in_default-clause-told c s =
    let none = none_if _ c.in_default.not-Some in
    ([], sym (append-nil c.args.effects.now.items), inl (rw none at (c.number.ensures s), refl))

pub returns-in_err-resolution-clause-told : goal.returns-in_err-resolution-clause-told
returns-in_err-resolution-clause-told c s =
    let p = err_from_is_err_and c.from_residual.result c.from_residual.ensures.1 in
    let old = with_exports s c.args.exports.now in
    let exported = rw c.in-Some.is at (c.number.ensures s) in
    rw (p.1, p.2) (settles_err _ _ (ResolvesEnd old c.args.last.now) (Tells old c.args.promise c.args.last.now) _ _ _ _ _ (λ f r. inr (c.in-Some.promise_id, exported, (Err f, r, refl))) (c.in_err-resolution.ensures.said s))

pub returns-clause-told : goal.returns-clause-told
returns-clause-told c s =
    let old = with_exports s c.args.exports.now in
    let exported = rw c.in-Some.is at (c.number.ensures s) in
    (_, c.in_ok-add.ensures, inr (c.in-Some.promise_id, exported, (Ok (c.in_ok-resolution.resolution, _), c.in_ok-resolution.ensures.said s, refl)))
