-- What the application does to local questions.
use Rattle.std.specs.Prelude.{◌≡◌, refl, ℕ, not, ◌++◌, Bool, true, false, [], ◌∷◌, Option, Some, None, is_none, Ok}
use Rattle.std.specs.FinMap.{get}
use Rattle.std.proofs.Common.{inl, inr}
use Rattle.cp_tables.specs.Counted.{count_of}
use Rattle.cp_tables.specs.Exchange.{new_exchange}
use Rattle.cp_tables.specs.declared.exchange.Exchange.{Exchange}
use Rattle.cp_tables.specs.declared.exchange.Stage.{Stage}
use Rattle.cp_tables.specs.declared.exchange.Stage.TheVariants as stages
use Rattle.cp_messages.specs.declared.message.Message.TheVariants as messages
use Rattle.cp_refs.specs.declared.cap.Cap.{Cap}
use Rattle.cp_refs.specs.declared.call.Origin.{Origin}
use Rattle.cp_refs.specs.declared.call.Origin.TheVariants as origins
use Rattle.cp_refs.specs.declared.outcome.Outcome.{Outcome}
use Rattle.cp_vat_machine.specs.State.{State}
use Rattle.cp_vat_machine.specs.Then.{Done, fault_if}
use Rattle.cp_vat_machine.specs.Capacity.{Fresh}
use Rattle.cp_vat_machine.specs.Give.{Settle, GiveOwnBy, Give}
use Rattle.cp_vat_machine.specs.Go.{finish_of}
use Rattle.cp_vat_machine.specs.InUse.{is_import_used, is_promise_used, is_question_used, is_own_question, is_unsettled}
use Rattle.cp_vat_machine.specs.Resolving.{release_of}
use Rattle.cp_vat_machine.specs.Calling.{OwnDone}
use Rattle.cp_vat_machine.specs.Doing.{DoBootstrap, DoAnswer, DoPromise, DoResolve, DoFinish, DoRelease, DoForget, answer_refusals, resolve_refusals, value_refusals, Resolves, Finishes, FinishBy, told_if, without_import, without_promise}
use Rattle.cp_vat_machine.specs.Step.{Does}
use Rattle.cp_vat_machine.specs.declared.effect.Effect.TheVariants as effects
use Rattle.cp_vat_machine.specs.declared.entry.QuestionEntry.{QuestionEntry}
use Rattle.cp_vat_machine.specs.declared.event.Event.{Event}
use Rattle.cp_vat_machine.specs.declared.event.Event.TheVariants as events
use Rattle.cp_vat_machine.specs.declared.event.Value.TheVariants as values
use Rattle.cp_vat_machine.specs.declared.fault.VatFault.{VatFault}
use Rattle.cp_vat_machine.specs.declared.fault.VatFault.TheVariants as refusals
use Rattle.cp_vat_machine.proofs.Basics.{is_itself, ok_in, ok_out, then_out, unless_out, or_full_out}
use Rattle.cp_vat_pair_laws.specs.LocalQuestions.{LocalQuestion, settled, finished, after_event, after_effects}
use Rattle.cp_vat_pair_laws.proofs.counts.rules.Call.{asked_entry}
use Rattle.cp_vat_pair_laws.proofs.counts.local.Matches.{IsGone, MatchesIf, MatchBy, match_put, match_gone, settled_gone, finished_gone}
use Rattle.cp_vat_pair_laws.proofs.counts.local.Give.{settle_match, answer_match}
use Rattle.cp_vat_pair_laws.proofs.counts.local.Call.{call_match}

-- after what the application does, with its effects
abbrev pub DoneMatch : State → Event → OwnDone → Type 0
DoneMatch old event done =
    MatchBy old.entries.questions (λ q question. after_effects q done.1 (after_event q event done.0 question)) done.2.entries.questions

-- a Bootstrap is sent at once
bootstrap_match : (old : State) (done : OwnDone) → DoBootstrap old (Ok done) → DoneMatch old events.Bootstrap done
bootstrap_match old done does =
    let parts = then_out {A = ℕ} {B = OwnDone} (Fresh old.entries.questions) _ done (or_full_out _ _ does) in
    rw
    (ok_in _ _ parts.2)
    (match_put old.entries.questions parts.0
    (λ q question. after_effects q (effects.Send (messages.Bootstrap (record { question_id = parts.0 })) ∷ []) question)
    (λ q question t. rw (t) refl) (new_exchange (asked_entry None true)) (λ question is. rw (is_itself parts.0) (inl refl)))

-- A call that was delivered is answered: its question gets the outcome, and one that was finished goes.
answered_by : (b : Bool) (kept : QuestionEntry) (question : LocalQuestion) → MatchesIf b question (record { stage = stages.Open; kept = kept })
    → MatchesIf b (settled (settled question)) (record { stage = stages.Returned; kept = kept })
answered_by true kept question is = settled_gone (settled question) (settled_gone question is)
answered_by false kept question is = (rw (is.0) refl, is.1)

ended_by : (b : Bool) (kept : QuestionEntry) (question : LocalQuestion) → MatchesIf b question (record { stage = stages.Finished; kept = kept }) → IsGone (settled question)
ended_by true kept question is = settled_gone question is
ended_by false kept question is = inl (rw (is.0) refl)

abbrev Given : State → Origin → Outcome → Done → Type 0
Given old origin outcome done = DoneMatch old (events.Answer origin outcome) (values.Nothing, done.0, done.1)

own_given : (old : State) (p : ℕ) (outcome : Outcome) (kept : QuestionEntry) (stage : Stage) (done : Done) → get old.entries.questions p ≡ Some (record { stage = stage; kept = kept })
    → GiveOwnBy old p outcome stage (Ok done) → Given old (origins.Own p) outcome done
own_given old p outcome kept stages.Open done there does =
    rw
    (ok_in _ _ does, there)
    (match_put old.entries.questions p
    (λ q question. after_effects q (effects.Settled p outcome ∷ []) (after_event q (events.Answer (origins.Own p) outcome) values.Nothing question))
    (λ q question t. rw (t) refl) (record { stage = stages.Returned; kept = kept })
    (λ question is. rw (is_itself p) (answered_by kept.is_sent kept question (rw there at is))))
own_given old p outcome kept stages.Finished done there does =
    rw
    (ok_in _ _ does)
    (match_gone old.entries.questions p (λ q question. after_event q (events.Answer (origins.Own p) outcome) values.Nothing question)
    (λ q question t. rw (t) refl) (λ question is. rw (is_itself p) (ended_by kept.is_sent kept question (rw there at is))))
own_given old p outcome kept stages.Returned done there does = absurd does

given_match : (old : State) (origin : Origin) (outcome : Outcome) (done : Done) → Give old origin outcome (Ok done) → Given old origin outcome done
given_match old (origins.Answer a) outcome done does = answer_match old a outcome done does
given_match old (origins.Own p) outcome done does = own_given old p outcome does.0.kept does.0.stage done does.1 does.2

outcome_match : (old : State) (origin : Origin) (outcome : Outcome) (done : OwnDone) → DoAnswer old origin outcome (Ok done) → DoneMatch old (events.Answer origin outcome) done
outcome_match old origin outcome done does =
    let gives = or_full_out _ _ (unless_out {A = OwnDone} {F = VatFault} (answer_refusals old origin outcome) _ done does) in
    let parts = then_out {A = Done} {B = OwnDone} (Give old origin outcome) _ done gives in
    rw (ok_in _ _ parts.2) (given_match old origin outcome parts.0 parts.1)

-- promises leave questions as they are
promise_match : (old : State) (done : OwnDone) → DoPromise old (Ok done) → DoneMatch old events.Promise done
promise_match old done does =
    let parts = then_out {A = ℕ} {B = OwnDone} (Fresh old.values.promises) _ done (or_full_out _ _ does) in
    rw (ok_in _ _ parts.2) (λ q question is. is)

resolves_match : (old : State) (p : ℕ) (cap : Cap) (done : OwnDone) → Resolves old p cap (Ok done) → DoneMatch old (events.Resolve p cap) done
resolves_match old p cap done (inl h) = ok_out h.1
resolves_match old p cap done (inr h) =
    let settles = or_full_out _ _ (unless_out {A = OwnDone} {F = VatFault} (value_refusals old cap) _ done h.1) in
    let parts = then_out {A = Done} {B = OwnDone} (Settle old p cap) _ done settles in
    rw (ok_in _ _ parts.2) (settle_match old p cap parts.0 parts.1)

resolve_match : (old : State) (p : ℕ) (cap : Cap) (done : OwnDone) → DoResolve old p cap (Ok done) → DoneMatch old (events.Resolve p cap) done
resolve_match old p cap done does =
    resolves_match old p cap done (unless_out {A = OwnDone} {F = VatFault} (resolve_refusals old p cap) (Resolves old p cap) done does)

forget_match : (old : State) (p : ℕ) (done : OwnDone) → DoForget old p (Ok done) → DoneMatch old (events.Forget p) done
forget_match old p done does =
    let is = unless_out {A = OwnDone} {F = VatFault} (fault_if (is_none (get old.values.promises p)) refusals.UnknownPromise
    ++ fault_if (is_unsettled (get old.values.promises p)) refusals.Unsettled
    ++ fault_if (is_promise_used old p) refusals.InUse) (λ out. out ≡ Ok (values.Nothing, [], without_promise old p)) done does in
    rw (ok_in _ _ is) (λ q question is. is)

release_match : (old : State) (i : ℕ) (done : OwnDone) → DoRelease old i (Ok done) → DoneMatch old (events.Release i) done
release_match old i done does =
    let is = unless_out {A = OwnDone} {F = VatFault}
    (fault_if (is_import_used old i) refusals.InUse ++ fault_if (is_none (get old.counts.imports i)) refusals.UnknownImport)
    (λ out. out ≡ Ok (values.Nothing, release_of i (count_of old.counts.imports i) ∷ [], without_import old i)) done does in
    rw (ok_in _ _ is) (λ q question is. is)

-- A question is finished: one that has its outcome goes.
finish_silent : (b release : Bool) (p q : ℕ) (question : LocalQuestion) → after_effects q (told_if b (finish_of p release)) question ≡ question
finish_silent true release p q question = refl
finish_silent false release p q question = refl

finished_by : (b : Bool) (kept : QuestionEntry) (question : LocalQuestion) → MatchesIf b question (record { stage = stages.Open; kept = kept })
    → MatchesIf b (finished question) (record { stage = stages.Finished; kept = kept })
finished_by true kept question is = finished_gone question is
finished_by false kept question is = (rw (is.0) refl, is.1)

gone_by : (b : Bool) (kept : QuestionEntry) (question : LocalQuestion) → MatchesIf b question (record { stage = stages.Returned; kept = kept }) → IsGone (finished question)
gone_by true kept question is = finished_gone question is
gone_by false kept question is = inl (rw (is.0) refl)

finish_by : (old : State) (p : ℕ) (kept : QuestionEntry) (stage : Stage) (done : OwnDone) → get old.entries.questions p ≡ Some (record { stage = stage; kept = kept })
    → FinishBy old p kept stage (Ok done) → DoneMatch old (events.Finish p) done
finish_by old p kept stages.Open done there does =
    rw
    (ok_in _ _ does, there)
    (match_put old.entries.questions p
    (λ q question. after_effects q (told_if kept.is_sent (finish_of p true)) (after_event q (events.Finish p) values.Nothing question))
    (λ q question t. rw (t) (finish_silent kept.is_sent true p q question)) (record { stage = stages.Finished; kept = kept })
    (λ question is. rw (is_itself p, finish_silent kept.is_sent true p p (finished question)) (finished_by kept.is_sent kept question (rw there at is))))
finish_by old p kept stages.Returned done there does =
    rw
    (ok_in _ _ does)
    (match_gone old.entries.questions p
    (λ q question. after_effects q (told_if kept.is_sent (finish_of p false)) (after_event q (events.Finish p) values.Nothing question))
    (λ q question t. rw (t) (finish_silent kept.is_sent false p q question))
    (λ question is. rw (is_itself p, finish_silent kept.is_sent false p p (finished question)) (gone_by kept.is_sent kept question (rw there at is))))
finish_by old p kept stages.Finished done there does = absurd does

finishes_match : (old : State) (p : ℕ) (o : Option (Exchange QuestionEntry)) (done : OwnDone) → get old.entries.questions p ≡ o → Finishes old p o (Ok done)
    → DoneMatch old (events.Finish p) done
finishes_match old p None done there does = absurd does
finishes_match old p (Some entry) done there does = finish_by old p entry.kept entry.stage done there does

finish_match : (old : State) (p : ℕ) (done : OwnDone) → DoFinish old p (Ok done) → DoneMatch old (events.Finish p) done
finish_match old p done does =
    finishes_match old p (get old.entries.questions p) done refl
    (unless_out {A = OwnDone} {F = VatFault} (fault_if (not (is_own_question old p)) refusals.UnknownQuestion ++ fault_if (is_question_used old p) refusals.InUse)
    (Finishes old p (get old.entries.questions p)) done does)

-- any call of the application
pub does_match : (old : State) (event : Event) (done : OwnDone) → Does old event (Ok done) → DoneMatch old event done
does_match old (events.Receive m) done does = absurd does
does_match old events.Bootstrap done does = bootstrap_match old done does
does_match old (events.Call cap request) done does = call_match old cap request done does
does_match old (events.Answer origin outcome) done does = outcome_match old origin outcome done does
does_match old events.Promise done does = promise_match old done does
does_match old (events.Resolve p cap) done does = resolve_match old p cap done does
does_match old (events.Finish q) done does = finish_match old q done does
does_match old (events.Release i) done does = release_match old i done does
does_match old (events.Forget p) done does = forget_match old p done does
does_match old events.Idle done does = rw (ok_in _ _ does) (λ q question is. is)
