use Rattle.std.proofs.Common.{◌≡◌, ◌∷◌, [], Ok, refl, subst}
use Rattle.std.proofs.lemmas.Result.{err_from_is_err_and}
use Rattle.cp_vat_machine.specs.State.{State}
use Rattle.cp_vat_machine.specs.Give.{Settle}
use Rattle.cp_vat_state.specs.StateOf.{state_of}
use Rattle.cp_vat_rules.specs.Settling.{settling}
use Rattle.cp_vat_rules.proofs.Giving.{acts_settled}
use Rattle.cp_vat_rules.proofs.settle.settle.Goals as goal

pub returns-in_err-settled-clause-acts : goal.returns-in_err-settled-clause-acts
returns-in_err-settled-clause-acts c =
    let old = state_of c.args.core.now in
    let p = err_from_is_err_and c.from_residual.result c.from_residual.ensures.1 in
    rw (p.1, p.2) (acts_settled _ (Settle old c.args.promise c.args.value) (Settle old c.args.promise c.args.value) _ _ _ _ _ _ _ (λ f t. t) (c.in_err-settled.ensures.settled old refl))

pub returns-clause-acts : goal.returns-clause-acts
returns-clause-acts c =
    let old = state_of c.args.core.now in
    let done = c.in_ok-settled.ensures.settled old refl in
    let new : State = state_of (record c.args.core.now { values = c.settle_value.new.values; exports = c.settle_value.new.exports; gates = c.end.new.self }) in
    let same : settling old c.settle_value.new.values.promises c.settle_value.new.exports (c.in_ok-settled.settled ∷ []) ≡ new = rw (c.in_ok-settled.ensures.put, c.in_ok-end.ensures) refl in
    (done.0, done.1, subst (λ s. Settle old c.args.promise c.args.value (Ok (done.0, s))) same done.2)
