-- How an outcome is taken out of events.
use Rattle.std.proofs.Common.{◌≡◌, ◌<◌, ◌==◌, ℕ, true, List, refl, sym, ap, subst, ◌∙◌}
use Rattle.std.specs.Prelude.{HoldsAt, length, remove, slice_index_or}
use Rattle.std.proofs.lemmas.Bool.{false≢true}
use Rattle.std.proofs.lemmas.List.{get_or_read}
use Rattle.cp_vat_machine.proofs.Basics.{is_equal}
use Rattle.cp_dispatch.specs.declared.event.SessionEvent.{SessionEvent}
use Rattle.cp_dispatch.specs.declared.event.SessionEvent.TheVariants as notices
use Rattle.cp_dispatch.specs.Finishing.{NoneAmong, TakesOut, takes_first}
use Rattle.cp_dispatch.specs.Noticed.{is_outcome_of, outcome_in}

-- the first event that is an outcome of a question is that outcome
pub taken_out : (question place : ℕ) (old : List SessionEvent) (event : SessionEvent) {new : List SessionEvent} → place < length old → NoneAmong question place old
    → HoldsAt (λ e. is_outcome_of question e ≡ true) old place → event ≡ slice_index_or old place event → new ≡ remove old place
    → TakesOut question old (outcome_in event) new
taken_out question place old (notices.Outcome q outcome) inside none found is gone =
    let said : (q == question) ≡ true = subst (λ (e : SessionEvent). is_outcome_of question e ≡ true) (sym is) (found (notices.Outcome q outcome)) in
    let same : q ≡ question = is_equal q question said in
    rw gone
    (takes_first place outcome none inside
    (λ d. sym (get_or_read old place (notices.Outcome q outcome) inside is d) ∙ ap (λ (n : ℕ). notices.Outcome n outcome) same))
taken_out question place old (notices.Closed reason) inside none found is gone =
    absurd (false≢true (subst (λ (e : SessionEvent). is_outcome_of question e ≡ true) (sym is) (found (notices.Closed reason))))
taken_out question place old notices.Restless inside none found is gone =
    absurd (false≢true (subst (λ (e : SessionEvent). is_outcome_of question e ≡ true) (sym is) (found notices.Restless)))
taken_out question place old (notices.Fault fault) inside none found is gone =
    absurd (false≢true (subst (λ (e : SessionEvent). is_outcome_of question e ≡ true) (sym is) (found (notices.Fault fault))))
taken_out question place old (notices.Limit limit) inside none found is gone =
    absurd (false≢true (subst (λ (e : SessionEvent). is_outcome_of question e ≡ true) (sym is) (found (notices.Limit limit))))
taken_out question place old notices.Ended inside none found is gone =
    absurd (false≢true (subst (λ (e : SessionEvent). is_outcome_of question e ≡ true) (sym is) (found notices.Ended)))
