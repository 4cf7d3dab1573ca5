use Rattle.std.proofs.Common.{◌≡◌, Some, Ok, Err, [], ◌∷◌, ◌++◌, refl, sym, ap, ◌∙◌, subst}
use Rattle.std.proofs.lemmas.Result.{err_from_is_err_and}
use Rattle.std.specs.FinMap.{get, insert}
use Rattle.cp_tables.specs.declared.exchange.Stage.TheVariants as stages
use Rattle.cp_refs.specs.Values.{ValueMaps}
use Rattle.cp_vat_machine.specs.State.{State}
use Rattle.cp_vat_machine.specs.Give.{GiveBy, Returns, SettleTied, given}
use Rattle.cp_vat_state.specs.Halts.{Leaves}
use Rattle.cp_vat_state.specs.Overs.{over_with}
use Rattle.cp_vat_state.specs.Queue.{with_over}
use Rattle.cp_vat_state.specs.StateOf.{state_of}
use Rattle.cp_vat_state.specs.declared.gates.Fulfillment.TheVariants as gifts
use Rattle.cp_vat_rules.specs.Leading.{with_parts}
use Rattle.cp_vat_rules.specs.Settling.{settling}
use Rattle.cp_vat_rules.proofs.Giving.{acts_err, acts_settled, given_open}
use Rattle.cp_vat_rules.proofs.Tying.{given_as}
use Rattle.cp_vat_rules.proofs.give.give_open.Goals as goal

pub returns-in_err-said-clause-acts : goal.returns-in_err-said-clause-acts
returns-in_err-said-clause-acts c = λ kept there.
    let p = err_from_is_err_and c.from_residual-in_err-said.result c.from_residual-in_err-said.ensures.1 in
    let old = state_of c.args.core.now in
    let P : ValueMaps → Type 0 = λ v. Leaves (Returns (with_parts old v c.args.core.now.exports) c.args.outcome) (Err c.in_err-said.field-0.0) (with_parts old v c.returned.new.exports) in
    rw (p.1, p.2) (acts_err (Returns old c.args.outcome) (λ out. GiveBy old c.args.id c.args.outcome kept stages.Open out) _ _ _ _ _ (λ f r. (Err f, r, refl)) (subst P c.values.ensures (c.in_err-said.ensures.said old)))

pub returns-in-Err-clause-acts : goal.returns-in-Err-clause-acts
returns-in-Err-clause-acts c = λ kept there.
    let old = state_of c.args.core.now in
    let said = with_parts old c.args.core.now.values c.returned.new.exports in
    let mid = given said c.args.id kept c.args.outcome c.in_ok-said.said in
    let P : ValueMaps → Type 0 = λ v. Returns (with_parts old v c.args.core.now.exports) c.args.outcome (Ok (c.in_ok-said.said, with_parts old v c.returned.new.exports)) in
    acts_settled _ (λ out. SettleTied mid c.in_ok-kept.kept kept.tied out) (λ out. GiveBy old c.args.id c.args.outcome kept stages.Open out) _ _ _ _ _ _ _
    (λ f r. (Ok (c.in_ok-said.said, said), subst P c.values.ensures (c.in_ok-said.ensures.said old), (Err f, subst (λ o. SettleTied mid o kept.tied (Err f)) c.in_ok-kept.ensures r, refl)))
    (c.in-Err.ensures.settled _ there mid refl)

pub returns-clause-acts : goal.returns-clause-acts
returns-clause-acts c = λ kept there.
    let old = state_of c.args.core.now in
    let said = with_parts old c.args.core.now.values c.returned.new.exports in
    let mid = given said c.args.id kept c.args.outcome c.in_ok-said.said in
    let P : ValueMaps → Type 0 = λ v. Returns (with_parts old v c.args.core.now.exports) c.args.outcome (Ok (c.in_ok-said.said, with_parts old v c.returned.new.exports)) in
    let now = c.settle_promises.new.core in
    let final = c.end_answer-ended.new.core in
    let ends = c.in_ok-ended.ensures in
    let new : State = state_of final in
    let done = c.in-Ok.ensures.settled _ there mid refl in
    let same : settling mid now.values.promises now.exports c.in-Ok.settled.items ≡ new =
    given_as c.args.core.now now c.returned.new.exports c.args.id c.args.outcome c.in_ok-fulfillment.fulfillment kept c.in_ok-said.said c.in_ok-ids.ids c.in-Ok.settled.items final.values final.answers (with_over now.gates (over_with now.gates.waiting.over (gifts.Answer c.args.id c.in_ok-fulfillment.fulfillment))) final.gates
    c.in-Ok.ensures.promises refl c.in_ok-fulfillment.ensures (ends.values ∙ ap (λ o. record now.values { answers = insert now.values.answers c.args.id (Some o) }) c.in_ok-kept.ensures) (ends.answers kept (ap (λ k. get k.answers c.args.id) c.in-Ok.ensures.promises ∙ there)) c.in_ok-ids.ensures (rw c.deref.ensures.value at ends.gates)
    ∙ sym (ap state_of ends.rest) in
    given_open old said new c.args.id c.args.outcome kept c.in_ok-said.said c.args.effects.now.items c.add.new.list.items c.settle_promises.new.effects.items (subst P c.values.ensures (c.in_ok-said.ensures.said old)) (c.in_ok-add.ensures ∙ ap (λ e. c.args.effects.now.items ++ e ∷ []) c.return_effect.ensures)
    (done.0, done.1, subst (λ s. SettleTied mid c.args.outcome kept.tied (Ok (done.0, s))) same (subst (λ o. SettleTied mid o kept.tied (Ok (done.0, settling mid now.values.promises now.exports c.in-Ok.settled.items))) c.in_ok-kept.ensures done.2))
