use Rattle.std.proofs.Common.{◌≡◌, Ok, Err, [], ◌∷◌, ◌++◌, refl, ap, ◌∙◌, subst}
use Rattle.std.proofs.lemmas.Result.{err_from_is_err_and}
use Rattle.cp_tables.specs.declared.exchange.Stage.TheVariants as stages
use Rattle.cp_messages.specs.declared.returned.Returned.TheVariants as returns
use Rattle.cp_vat_machine.specs.State.{State}
use Rattle.cp_vat_machine.specs.Give.{GiveBy, SettleTied, gone, return_of}
use Rattle.cp_vat_state.specs.StateOf.{state_of}
use Rattle.cp_vat_rules.specs.Settling.{settling}
use Rattle.cp_vat_rules.proofs.Giving.{acts_settled, given_canceled}
use Rattle.cp_vat_rules.proofs.Tying.{gone_as}
use Rattle.cp_vat_rules.proofs.give.give_finished.Goals as goal

pub returns-in_err-settled-clause-acts : goal.returns-in_err-settled-clause-acts
returns-in_err-settled-clause-acts c = λ kept there.
    let p = err_from_is_err_and c.from_residual-in_err-settled.result c.from_residual-in_err-settled.ensures.1 in
    let old = state_of c.args.core.now in
    let mid = gone old c.args.id c.args.outcome in
    rw (p.1, p.2)
    (acts_settled _ (λ out. SettleTied mid c.in_ok-kept.kept kept.tied out) (λ out. GiveBy old c.args.id c.args.outcome kept stages.Finished out) _ _ _ _ _ _ _ (λ f r. (Err f, subst (λ o. SettleTied mid o kept.tied (Err f)) c.in_ok-kept.ensures r, refl)) (c.in_err-settled.ensures.settled _ there mid refl))

pub returns-clause-acts : goal.returns-clause-acts
returns-clause-acts c = λ kept there.
    let old = state_of c.args.core.now in
    let mid = gone old c.args.id c.args.outcome in
    let now = c.settle_promises.new.core in
    let settled = c.in_ok-settled.settled.items in
    let new : State = state_of c.end_finished-ended.new.core in
    let done = c.in_ok-settled.ensures.settled _ there mid refl in
    let same : settling mid now.values.promises now.exports settled ≡ new =
    gone_as c.args.core.now now c.end_finished-ended.new.core c.args.id c.args.outcome c.in_ok-kept.kept settled c.in_ok-settled.ensures.promises c.in_ok-kept.ensures (rw c.deref.ensures.value at c.in_ok-ended.ensures) in
    let pushed : c.add.new.list.items ≡ c.args.effects.now.items ++ return_of c.args.id returns.Canceled ∷ [] = c.in_ok-add.ensures ∙ ap (λ e. c.args.effects.now.items ++ e ∷ []) c.return_effect.ensures in
    given_canceled old new c.args.id c.args.outcome kept c.args.effects.now.items c.add.new.list.items c.settle_promises.new.effects.items pushed
    (done.0, done.1, subst (λ s. SettleTied mid c.args.outcome kept.tied (Ok (done.0, s))) same (subst (λ o. SettleTied mid o kept.tied (Ok (done.0, settling mid now.values.promises now.exports settled))) c.in_ok-kept.ensures done.2))
