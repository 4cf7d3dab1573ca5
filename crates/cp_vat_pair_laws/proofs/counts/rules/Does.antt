-- What the application does, as the accounts see it.
use Rattle.std.specs.Prelude.{◌≡◌, refl, ℕ, ◌==◌, not, ◌&&◌, Bool, true, false, List, [], ◌∷◌, ◌++◌, Option, Some, None, is_none, Result, Ok}
use Rattle.std.specs.List.{list_any}
use Rattle.std.specs.FinMap.{get, remove}
use Rattle.std.proofs.Common.{inl, inr, ap, sym, ◌∙◌, true≢false}
use Rattle.cp_tables.specs.Table.{Table}
use Rattle.cp_tables.specs.Counted.{count_of}
use Rattle.cp_tables.specs.declared.exchange.Exchange.{Exchange}
use Rattle.cp_tables.specs.declared.exchange.Stage.{Stage}
use Rattle.cp_tables.specs.declared.exchange.Stage.TheVariants as stages
use Rattle.cp_refs.specs.declared.cap.Cap.{Cap}
use Rattle.cp_refs.specs.declared.call.Origin.{Origin}
use Rattle.cp_refs.specs.declared.call.Origin.TheVariants as origins
use Rattle.cp_refs.specs.declared.outcome.Outcome.{Outcome}
use Rattle.cp_refs.specs.declared.values.QuestionKind.TheVariants as kinds
use Rattle.cp_vat_machine.specs.State.{State}
use Rattle.cp_vat_machine.specs.Then.{Done, fault_if, Unless}
use Rattle.cp_vat_machine.specs.Capacity.{Fresh, cap_fits, outcome_fits}
use Rattle.cp_vat_machine.specs.Give.{Give, Settle}
use Rattle.cp_vat_machine.specs.InUse.{is_import_used, is_promise_used, is_question_used, is_own_question, has_question, has_promise, has_import, is_pipelined, is_unsettled, caps_of}
use Rattle.cp_vat_machine.specs.Resolving.{release_of}
use Rattle.cp_vat_machine.specs.Calling.{OwnDone, not_all}
use Rattle.cp_vat_machine.specs.Doing.{DoBootstrap, DoAnswer, DoPromise, DoResolve, DoFinish, DoRelease, DoForget, awaits, is_ungiven, is_ungiven_question, answer_refusals, resolve_refusals, value_refusals, Resolves, Finishes, FinishBy, without_import, without_promise}
use Rattle.cp_vat_machine.specs.Step.{Does}
use Rattle.cp_vat_machine.specs.declared.entry.QuestionEntry.{QuestionEntry}
use Rattle.cp_vat_machine.specs.declared.event.Event.{Event}
use Rattle.cp_vat_machine.specs.declared.event.Event.TheVariants as events
use Rattle.cp_vat_machine.specs.declared.event.Value.TheVariants as values
use Rattle.cp_vat_machine.specs.declared.fault.VatFault.{VatFault}
use Rattle.cp_vat_machine.specs.declared.fault.VatFault.TheVariants as refusals
use Rattle.cp_vat_machine.proofs.Basics.{some_out, ok_in, ok_out, then_out, unless_out, or_full_out, gone_at}
use Rattle.cp_vat_pair_laws.specs.Orderly.{IsPlainValue, ArePlainValues, IsOrderly, Goes}
use Rattle.cp_vat_pair_laws.proofs.counts.rules.Accounts.{free_out, bootstraps, finishes_sent}
use Rattle.cp_vat_pair_laws.proofs.counts.rules.Release.{releases_sent}
use Rattle.cp_vat_pair_laws.proofs.counts.rules.TwoParts.{sends_none}
use Rattle.cp_vat_pair_laws.proofs.counts.rules.Waits.{delivered_not, given_not, none_waits, put_again, gone_question}
use Rattle.cp_vat_pair_laws.proofs.counts.rules.Plain.{IsPlainTable}
use Rattle.cp_vat_pair_laws.proofs.counts.rules.Settle.{values_put, settle_goes}
use Rattle.cp_vat_pair_laws.proofs.counts.rules.Give.{answer_goes, own_goes}
use Rattle.cp_vat_pair_laws.proofs.counts.rules.Call.{asked_orderly, call_goes}

-- a rule whose answer is Ok found no refusal
abbrev is_empty : {A : Type 0} → List A → Bool
is_empty [] = true
is_empty (x ∷ xs) = false

unrefused : {A F : Type 0} (faults : List F) (Rule : Result A F → Type 0) (x : A) → Unless faults Rule (Ok x) → faults ≡ []
unrefused [] Rule x does = refl
unrefused (fault ∷ faults) Rule x does = ok_out does

front_empty : {F : Type 0} (xs ys : List F) → xs ++ ys ≡ [] → xs ≡ []
front_empty [] ys none = refl
front_empty (x ∷ xs) ys none = absurd (true≢false (sym (ap is_empty none)))

back_empty : {F : Type 0} (xs ys : List F) → xs ++ ys ≡ [] → ys ≡ []
back_empty [] ys none = none
back_empty (x ∷ xs) ys none = absurd (true≢false (sym (ap is_empty none)))

unheld : {F : Type 0} (b : Bool) (fault : F) → fault_if b fault ≡ [] → b ≡ false
unheld true fault none = absurd (true≢false (sym (ap is_empty none)))
unheld false fault none = refl

three_held : {F : Type 0} (a b c : Bool) (x y z : F) → fault_if a x ++ fault_if b y ++ fault_if c z ≡ [] → (a ≡ false) × (c ≡ false)
three_held a b c x y z none =
    let front = front_empty (fault_if a x ++ fault_if b y) (fault_if c z) none in
    (unheld a x (front_empty (fault_if a x) (fault_if b y) front), unheld c z (back_empty (fault_if a x ++ fault_if b y) (fault_if c z) none))

not_false : (b : Bool) → not b ≡ false → b ≡ true
not_false true h = refl
not_false false h = sym h

first_of : (a b : Bool) → (a && b) ≡ true → a ≡ true
first_of true b h = refl
first_of false b h = h

-- a question is asked
bootstrap_goes : (old : State) (done : OwnDone) → IsOrderly old → DoBootstrap old (Ok done) → Goes old done.1 done.2
bootstrap_goes old done orderly does =
    let parts = then_out {A = ℕ} {B = OwnDone} (Fresh old.entries.questions) _ done (or_full_out _ _ does) in
    (bootstraps old done does, rw (ok_in _ _ parts.2) (asked_orderly old parts.0 kinds.Wire None true orderly (free_out _ parts.0 parts.1)))

-- an outcome is given
awaited : (o : Option (Exchange QuestionEntry)) → is_ungiven_question o ≡ true → (entry : Exchange QuestionEntry) × (o ≡ Some entry) × (entry.kept.is_delivered ≡ true)
awaited None h = absurd (true≢false (sym h))
awaited (Some entry) h = (entry, refl, at entry.stage entry.kept.is_delivered h)
  where
    at : (stage : Stage) (b : Bool) → is_ungiven b stage ≡ true → b ≡ true
    at stages.Open b h = h
    at stages.Finished b h = h
    at stages.Returned b h = absurd (true≢false (sym h))

same_entry : (o : Option (Exchange QuestionEntry)) (one other : Exchange QuestionEntry) → o ≡ Some one → o ≡ Some other → one ≡ other
same_entry o one other is also = some_out (sym is ∙ also)

outcome_goes : (old : State) (origin : Origin) (outcome : Outcome) (done : Done) → IsOrderly old → IsPlainTable (caps_of outcome) → awaits old origin ≡ true
    → Give old origin outcome (Ok done) → Goes old done.0 done.1
outcome_goes old (origins.Answer a) outcome done orderly plain waits does = answer_goes old a outcome done orderly plain does
outcome_goes old (origins.Own q) outcome done orderly plain waits does =
    let here = awaited (get old.entries.questions q) waits in
    own_goes old q outcome done orderly
    (none_waits old.waiting.calls old.entries.questions orderly.held q (rw (here.1) (delivered_not here.0 here.2)))
    (λ entry is. orderly.held.here q entry is (ap (λ e. e.kept.is_delivered) (same_entry (get old.entries.questions q) entry here.0 is here.1) ∙ here.2))
    does

gives_goes : (old : State) (origin : Origin) (outcome : Outcome) (done : OwnDone) → IsOrderly old → DoAnswer old origin outcome (Ok done) → Goes old done.1 done.2
gives_goes old origin outcome done orderly does =
    let none = unrefused {A = OwnDone} {F = VatFault} (answer_refusals old origin outcome) _ done does in
    let unknown = fault_if (not (awaits old origin && not (not_all (has_question old) (caps_of outcome)))) refusals.UnknownQuestion
    ++ fault_if (not_all (has_promise old) (caps_of outcome)) refusals.UnknownPromise
    ++ fault_if (list_any is_pipelined (caps_of outcome)) refusals.Unsettled in
    let large = fault_if (not (outcome_fits outcome)) refusals.TooLarge in
    let front = front_empty unknown large (front_empty (unknown ++ large) (fault_if (not_all (has_import old) (caps_of outcome)) refusals.UnknownImport) none) in
    let held = three_held (not (awaits old origin && not (not_all (has_question old) (caps_of outcome)))) (not_all (has_promise old) (caps_of outcome))
    (list_any is_pipelined (caps_of outcome)) refusals.UnknownQuestion refusals.UnknownPromise refusals.Unsettled front in
    let gives = or_full_out _ _ (unless_out {A = OwnDone} {F = VatFault} (answer_refusals old origin outcome) _ done does) in
    let parts = then_out {A = Done} {B = OwnDone} (Give old origin outcome) _ done gives in
    rw (ok_in _ _ parts.2) (outcome_goes old origin outcome parts.0 orderly held.1 (first_of (awaits old origin) _ (not_false _ held.0)) parts.1)

-- promises
promise_goes : (old : State) (done : OwnDone) → IsOrderly old → DoPromise old (Ok done) → Goes old done.1 done.2
promise_goes old done orderly does =
    let parts = then_out {A = ℕ} {B = OwnDone} (Fresh old.values.promises) _ done (or_full_out _ _ does) in
    rw
    (ok_in _ _ parts.2) (
      record { usual = tt; posts = refl },
      record {
        held = orderly.held;
        values = values_put old.values.promises parts.0 None tt orderly.values;
        answers = orderly.answers;
        exports = orderly.exports;
      },
    )

resolve_by : (old : State) (p : ℕ) (cap : Cap) (done : OwnDone) → IsOrderly old → Resolves old p cap (Ok done) → Goes old done.1 done.2
resolve_by old p cap done orderly (inl h) = ok_out h.1
resolve_by old p cap done orderly (inr h) =
    let none = unrefused {A = OwnDone} {F = VatFault} (value_refusals old cap) _ done h.1 in
    let plain = three_held (is_pipelined cap) (not (cap_fits cap)) (not (has_import old cap)) refusals.Unsettled refusals.TooLarge refusals.UnknownImport none in
    let settles = or_full_out _ _ (unless_out {A = OwnDone} {F = VatFault} (value_refusals old cap) _ done h.1) in
    let parts = then_out {A = Done} {B = OwnDone} (Settle old p cap) _ done settles in
    rw (ok_in _ _ parts.2) (settle_goes old p cap parts.0 orderly plain.0 parts.1)

resolve_goes : (old : State) (p : ℕ) (cap : Cap) (done : OwnDone) → IsOrderly old → DoResolve old p cap (Ok done) → Goes old done.1 done.2
resolve_goes old p cap done orderly does =
    resolve_by old p cap done orderly (unless_out {A = OwnDone} {F = VatFault} (resolve_refusals old p cap) (Resolves old p cap) done does)

value_gone : (promises : Table (Option Cap)) (p q : ℕ) (b : Bool) → (p == q) ≡ b → ArePlainValues promises → IsPlainValue (get (remove promises p) q)
value_gone promises p q true t all = rw (gone_at promises p q true t) tt
value_gone promises p q false t all = rw (gone_at promises p q false t) (all q)

forget_goes : (old : State) (p : ℕ) (done : OwnDone) → IsOrderly old → DoForget old p (Ok done) → Goes old done.1 done.2
forget_goes old p done orderly does =
    let is = unless_out {A = OwnDone} {F = VatFault} (fault_if (is_none (get old.values.promises p)) refusals.UnknownPromise
    ++ fault_if (is_unsettled (get old.values.promises p)) refusals.Unsettled
    ++ fault_if (is_promise_used old p) refusals.InUse) (λ out. out ≡ Ok (values.Nothing, [], without_promise old p)) done does in
    rw
    (ok_in _ _ is) (
      record { usual = tt; posts = refl },
      record {
        held = orderly.held;
        values = λ q. value_gone old.values.promises p q (p == q) refl orderly.values;
        answers = orderly.answers;
        exports = orderly.exports;
      },
    )

-- questions and imports are given up
finish_orderly : (old : State) (q : ℕ) (kept : QuestionEntry) (stage : Stage) (done : OwnDone) → IsOrderly old → get old.entries.questions q ≡ Some (record { stage = stage; kept = kept })
    → FinishBy old q kept stage (Ok done) → IsOrderly done.2
finish_orderly old q kept stages.Open done orderly is does =
    rw
    (ok_in _ _ does, is)
    (record {
      held =
          put_again old.waiting.calls old.entries.questions orderly.held q (record { stage = stages.Open; kept = kept }) (record { stage = stages.Finished; kept = kept }) is
          (λ back. ((back.0.0, tt), back.1))
          (orderly.held.here q (record { stage = stages.Open; kept = kept }) is);
      values = orderly.values;
      answers = orderly.answers;
      exports = orderly.exports;
    })
finish_orderly old q kept stages.Returned done orderly is does =
    rw
    (ok_in _ _ does)
    (record {
      held =
          gone_question old.waiting.calls old.entries.questions orderly.held q
          (none_waits old.waiting.calls old.entries.questions orderly.held q (rw (is) (given_not (record { stage = stages.Returned; kept = kept }) refl)));
      values = orderly.values;
      answers = orderly.answers;
      exports = orderly.exports;
    })
finish_orderly old q kept stages.Finished done orderly is does = absurd does

finish_at : (old : State) (q : ℕ) (o : Option (Exchange QuestionEntry)) (done : OwnDone) → IsOrderly old → get old.entries.questions q ≡ o → Finishes old q o (Ok done)
    → IsOrderly done.2
finish_at old q None done orderly is does = absurd does
finish_at old q (Some entry) done orderly is does = finish_orderly old q entry.kept entry.stage done orderly is does

finish_goes : (old : State) (q : ℕ) (done : OwnDone) → IsOrderly old → DoFinish old q (Ok done) → Goes old done.1 done.2
finish_goes old q done orderly does = (
  finishes_sent old q done does,
  finish_at old q (get old.entries.questions q) done orderly refl
      (unless_out {A = OwnDone} {F = VatFault} (fault_if (not (is_own_question old q)) refusals.UnknownQuestion ++ fault_if (is_question_used old q) refusals.InUse)
      (Finishes old q (get old.entries.questions q)) done does),
)

release_goes : (old : State) (i : ℕ) (done : OwnDone) → IsOrderly old → DoRelease old i (Ok done) → Goes old done.1 done.2
release_goes old i done orderly does =
    let is = unless_out {A = OwnDone} {F = VatFault}
    (fault_if (is_import_used old i) refusals.InUse ++ fault_if (is_none (get old.counts.imports i)) refusals.UnknownImport)
    (λ out. out ≡ Ok (values.Nothing, release_of i (count_of old.counts.imports i) ∷ [], without_import old i)) done does in
    (releases_sent old i done does, rw (ok_in _ _ is) (record { held = orderly.held; values = orderly.values; answers = orderly.answers; exports = orderly.exports }))

-- any call of the application
pub does_goes : (old : State) (event : Event) (done : OwnDone) → IsOrderly old → Does old event (Ok done) → Goes old done.1 done.2
does_goes old (events.Receive m) done orderly does = absurd does
does_goes old events.Bootstrap done orderly does = bootstrap_goes old done orderly does
does_goes old (events.Call cap request) done orderly does = call_goes old cap request done orderly does
does_goes old (events.Answer origin outcome) done orderly does = gives_goes old origin outcome done orderly does
does_goes old events.Promise done orderly does = promise_goes old done orderly does
does_goes old (events.Resolve p cap) done orderly does = resolve_goes old p cap done orderly does
does_goes old (events.Finish q) done orderly does = finish_goes old q done orderly does
does_goes old (events.Release i) done orderly does = release_goes old i done orderly does
does_goes old (events.Forget p) done orderly does = forget_goes old p done orderly does
does_goes old events.Idle done orderly does = rw (ok_in _ _ does) (sends_none old old [] refl refl, orderly)
