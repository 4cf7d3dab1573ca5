-- The application's other calls are quiet.
use Rattle.std.specs.Prelude.{◌≡◌, refl, ℕ, ◌+◌, ◌≤◌, not, ◌&&◌, Bool, true, false, List, [], ◌∷◌, ◌++◌, Option, Some, None, is_some, is_none, Result, Ok}
use Rattle.std.specs.FinMap.{get}
use Rattle.std.proofs.Common.{arith, inl, inr, ap, sym, ◌∙◌, true≢false}
use Rattle.cp_tables.specs.Exchange.{with_stage}
use Rattle.cp_tables.specs.declared.exchange.Exchange.{Exchange}
use Rattle.cp_tables.specs.declared.exchange.Stage.{Stage}
use Rattle.cp_tables.specs.declared.exchange.Stage.TheVariants as stages
use Rattle.cp_refs.specs.declared.cap.Cap.{Cap}
use Rattle.cp_refs.specs.declared.call.Origin.{Origin}
use Rattle.cp_refs.specs.declared.call.Origin.TheVariants as origins
use Rattle.cp_refs.specs.declared.outcome.Outcome.{Outcome}
use Rattle.cp_refs.specs.declared.values.QuestionKind.TheVariants as kinds
use Rattle.cp_vat_machine.specs.State.{State, with_questions}
use Rattle.cp_vat_machine.specs.Then.{Done, OrFull, fault_if}
use Rattle.cp_vat_machine.specs.Capacity.{Fresh, outcome_fits}
use Rattle.cp_vat_machine.specs.Give.{Give, Settle, without_question}
use Rattle.cp_vat_machine.specs.InUse.{has_question, has_promise, has_import, is_pipelined, caps_of, is_own_question, is_question_used, is_import_used, is_promise_used, is_unsettled}
use Rattle.cp_vat_machine.specs.Local.{is_open_stage, one_if, waiting_of, IsOpenIf}
use Rattle.cp_vat_machine.specs.Calling.{OwnDone, asked, not_all}
use Rattle.cp_vat_machine.specs.Resolving.{release_of}
use Rattle.cp_tables.specs.Counted.{count_of}
use Rattle.std.specs.List.{list_any}
use Rattle.cp_vat_machine.specs.Doing.{Quietly, quietly, DoBootstrap, is_ungiven, awaits, answer_refusals, DoAnswer, promise_made, DoPromise, is_made, is_settled, resolve_refusals, value_refusals, Resolves, DoResolve, told_if, FinishBy, Finishes, DoFinish, without_import, DoRelease, without_promise, DoForget, DoIdle}
use Rattle.cp_vat_machine.specs.declared.effect.Effect.{Effect}
use Rattle.cp_vat_machine.specs.declared.entry.AnswerEntry.{AnswerEntry}
use Rattle.cp_vat_machine.specs.declared.entry.QuestionEntry.{QuestionEntry}
use Rattle.cp_vat_machine.specs.declared.event.Value.TheVariants as values
use Rattle.cp_vat_machine.specs.declared.fault.PeerFault.{PeerFault}
use Rattle.cp_vat_machine.specs.declared.fault.VatFault.{VatFault}
use Rattle.cp_vat_machine.specs.declared.fault.VatFault.TheVariants as refusals
use Rattle.cp_vat_laws.specs.Within.{Within, is_in_hand}
use Rattle.cp_vat_laws.specs.Within as within_specs
use Rattle.cp_vat_machine.proofs.Basics.{ok_in, ok_out, then_out, unless_out, or_full_out}
use Rattle.cp_vat_laws.proofs.order.Basics.{there_is}
use Rattle.cp_vat_laws.proofs.order.Same.{marks_same}
use Rattle.cp_vat_laws.proofs.order.Closes.{same_closes}
use Rattle.cp_vat_laws.proofs.order.Settle.{settle_closes}
use Rattle.cp_vat_laws.proofs.order.Give.{IsUngiven, give_done}
use Rattle.cp_vat_laws.proofs.order.Sound.{sound_within, answer_open, question_open, tied_open}
use Rattle.cp_vat_laws.proofs.order.Grows.{GrowsTo, put_grows, grows_passes}
use Rattle.cp_vat_laws.proofs.order.Removes.{promise_goes, import_goes, question_goes}
use Rattle.cp_vat_laws.proofs.order.Call.{free_at, free_question}
use Rattle.cp_vat_laws.proofs.order.Quiet.{NoneLeaves, IsQuietly, closes_quietly}
use Rattle.cp_vat_laws.proofs.Tables.{no_faults, front_empty, back_empty, not_met}

-- what a call of the application did, where it wasn't refused
abbrev pub DidQuietly : State → OwnDone → Type 0
DidQuietly old done = IsQuietly old done.1 done.2

-- values that grow, with nothing else
grows_quietly : (old mid : State) (first : List Effect) → GrowsTo old.values mid.values → mid.waiting ≡ old.waiting → mid.marks ≡ old.marks → old.next_ticket ≤ mid.next_ticket
    → NoneLeaves first → IsQuietly old first mid
grows_quietly old mid first grows waiting marks next quiet =
    record {
      passes =
          grows_passes old mid grows (ap (λ w. w.over) waiting) (λ n v is. ap (λ m. get m.embargoes n) marks ∙ is)
          (λ c g there off fits. marks_same old mid c g marks (ap (λ w. w.over.embargoes) waiting) fits) next;
      quiet = quiet;
      calls = ap (λ w. w.calls) waiting;
    }

asked_grows : (old : State) (q : ℕ) (kind : Rattle.cp_refs.specs.declared.values.QuestionKind.QuestionKind) (ticket : Option ℕ) (is_sent : Bool) → Within old None []
    → get old.entries.questions q ≡ None → GrowsTo old.values (asked old q kind ticket is_sent).values
asked_grows old q kind ticket is_sent w free =
    record {
      promises = λ p x is. is;
      imports = λ i x is. is;
      answers = λ a x is. is;
      questions = put_grows old.values.questions q (record { kind = kind; outcome = None }) (free_question old q w free);
    }

pub did_bootstrap : (old : State) (done : OwnDone) → Within old None [] → DoBootstrap old (Ok done) → DidQuietly old done
did_bootstrap old done w does =
    let fresh = then_out {A = ℕ} {B = OwnDone} (Fresh old.entries.questions) _ done (or_full_out {A = OwnDone} _ done does) in
    rw
    (ok_in _ _ fresh.2)
    (grows_quietly old (asked old fresh.0 kinds.Wire None true) _ (asked_grows old fresh.0 kinds.Wire None true w (free_at old.entries.questions fresh.0 fresh.1)) refl refl
    (omega arith) (λ s. refl))

promise_grows : (old : State) (p : ℕ) → get old.values.promises p ≡ None → GrowsTo old.values (promise_made old p).values
promise_grows old p free =
    record {
      promises = put_grows old.values.promises p None free;
      imports = λ i x is. is;
      answers = λ a x is. is;
      questions = λ q x is. is;
    }

pub did_promise : (old : State) (done : OwnDone) → DoPromise old (Ok done) → DidQuietly old done
did_promise old done does =
    let fresh = then_out {A = ℕ} {B = OwnDone} (Fresh old.values.promises) _ done (or_full_out {A = OwnDone} _ done does) in
    rw
    (ok_in _ _ fresh.2)
    (grows_quietly old (promise_made old fresh.0) [] (promise_grows old fresh.0 (free_at old.values.promises fresh.0 fresh.1)) refl refl (omega arith) (λ s. refl))

-- An outcome that the application hands in.
ungiven_by : (is_delivered : Bool) (stage : Stage) → is_ungiven is_delivered stage ≡ true → (is_open_stage stage ≡ true) × (is_delivered ≡ true)
ungiven_by d stages.Open e = (refl, e)
ungiven_by d stages.Finished e = (refl, e)
ungiven_by d stages.Returned e = absurd (true≢false (sym e))

awaited_answer : (old : State) (a : ℕ) → Within old None [] → (o : Option (Exchange AnswerEntry)) → get old.entries.answers a ≡ o
    → Rattle.cp_vat_machine.specs.Doing.is_ungiven_answer o ≡ true → IsUngiven old (origins.Answer a)
awaited_answer old a w None is e = absurd (true≢false (sym e))
awaited_answer old a w (Some entry) is e =
    let by = ungiven_by entry.kept.is_delivered entry.stage e in
    let value = answer_open old None [] w a entry is by.0 (get old.values.answers a) refl (w.answers_valued a) in
    (value, (sound_within old None [] w).opens.open_answers a value, rw (is) (tied_open old None w a entry is))

-- one that was delivered forwards nothing
own_by : (forwards : Option ℕ) (entry : Exchange QuestionEntry) → IsOpenIf forwards entry → (n : ℕ) → n + one_if entry.kept.is_delivered + one_if entry.kept.is_sent ≡ 1
    → entry.kept.is_delivered ≡ true → forwards ≡ None
own_by None entry h n place delivered = refl
own_by (Some a) entry h n place delivered = absurd (never (rw (delivered, h.1) at place))
  where
    never : n + one_if true + one_if true ≡ 1 → ⊥
    never e = omega (arith, e)

awaited_question : (old : State) (q : ℕ) → Within old None [] → (o : Option (Exchange QuestionEntry)) → get old.entries.questions q ≡ o
    → Rattle.cp_vat_machine.specs.Doing.is_ungiven_question o ≡ true → IsUngiven old (origins.Own q)
awaited_question old q w None is e = absurd (true≢false (sym e))
awaited_question old q w (Some entry) is e =
    let by = ungiven_by entry.kept.is_delivered entry.stage e in
    let forwards = there_is (λ x. IsOpenIf x.kept.forwards x) (get old.entries.questions q) entry is (w.forwarding q) in
    let place = there_is (within_specs.HasQuestionPlace old None q) (get old.entries.questions q) entry is (w.questions q) in
    let own = own_by entry.kept.forwards entry forwards (one_if (is_in_hand None (origins.Own q)) + waiting_of old (origins.Own q)) (place by.0) by.1 in
    let value = question_open old None [] w q entry is by.0 own (get old.values.questions q) refl (w.questions_valued q) in
    (value.0, value.1, value.2, (sound_within old None [] w).opens.open_questions q value.0 value.1 value.2)

pub awaited : (old : State) (origin : Origin) → Within old None [] → awaits old origin ≡ true → IsUngiven old origin
awaited old (origins.Answer a) w e = awaited_answer old a w (get old.entries.answers a) refl e
awaited old (origins.Own q) w e = awaited_question old q w (get old.entries.questions q) refl e

pub both_of : (a b : Bool) → not (a && b) ≡ false → a ≡ true
both_of true b e = refl
both_of false b e = absurd (true≢false e)

pub quietly_out : (Rule : Result Done PeerFault → Type 0) (done : OwnDone) → OrFull (Quietly Rule) (Ok done) → (x : Done) × Rule (Ok x) × (done ≡ quietly x)
quietly_out Rule done does =
    let parts = then_out {A = Done} {B = OwnDone} Rule _ done (or_full_out {A = OwnDone} (Quietly Rule) done does) in
    (parts.0, parts.1, ok_in _ _ parts.2)

abbrev awaited_faults : State → Origin → Outcome → List VatFault
awaited_faults s origin outcome = fault_if (not (awaits s origin && not (not_all (has_question s) (caps_of outcome)))) refusals.UnknownQuestion

abbrev promise_faults : State → Outcome → List VatFault
promise_faults s outcome = fault_if (not_all (has_promise s) (caps_of outcome)) refusals.UnknownPromise

abbrev path_faults : Outcome → List VatFault
path_faults outcome = fault_if (list_any is_pipelined (caps_of outcome)) refusals.Unsettled

abbrev size_faults : Outcome → List VatFault
size_faults outcome = fault_if (not (outcome_fits outcome)) refusals.TooLarge

abbrev import_faults : State → Outcome → List VatFault
import_faults s outcome = fault_if (not_all (has_import s) (caps_of outcome)) refusals.UnknownImport

first_of : (s : State) (origin : Origin) (outcome : Outcome) → answer_refusals s origin outcome ≡ [] → awaits s origin ≡ true
first_of s origin outcome fine =
    let A = awaited_faults s origin outcome in
    let P = promise_faults s outcome in
    let L = path_faults outcome in
    let S = size_faults outcome in
    let four = front_empty (A ++ P ++ L ++ S) (import_faults s outcome) fine in
    let three = front_empty (A ++ P ++ L) S four in
    let two = front_empty (A ++ P) L three in
    both_of (awaits s origin) _ (not_met (not (awaits s origin && not (not_all (has_question s) (caps_of outcome)))) _ (front_empty A P two))

pub did_answer : (old : State) (origin : Origin) (outcome : Outcome) (done : OwnDone) → Within old None [] → DoAnswer old origin outcome (Ok done) → DidQuietly old done
did_answer old origin outcome done w does =
    let fine = no_faults (answer_refusals old origin outcome) _ done does in
    let parts = quietly_out (Give old origin outcome) done (unless_out (answer_refusals old origin outcome) _ done does) in
    let may = awaited old origin w (first_of old origin outcome fine) in
    let gives = give_done old origin outcome parts.0 parts.1 may in
    rw (parts.2) (closes_quietly old parts.0.0 parts.0.1 gives.closes gives.quiet)

-- A promise that the application settles.
unsettled_by : (o : Option (Option Cap)) → is_settled o ≡ false → is_some o ≡ true → o ≡ Some None
unsettled_by None e some = absurd (true≢false (sym some))
unsettled_by (Some None) e some = refl
unsettled_by (Some (Some v)) e some = absurd (true≢false e)

resolve_open : (s : State) (p : ℕ) (cap : Cap) → Within s None [] → resolve_refusals s p cap ≡ [] → get s.values.promises p ≡ Some None
resolve_open s p cap w fine =
    let Q = fault_if (not (has_question s cap)) refusals.UnknownQuestion in
    let P = fault_if (not (is_made s p && has_promise s cap)) refusals.UnknownPromise in
    let R = fault_if (is_settled (get s.values.promises p)) refusals.AlreadyResolved in
    let made = both_of (is_made s p) (has_promise s cap) (not_met (not (is_made s p && has_promise s cap)) _ (back_empty Q P (front_empty (Q ++ P) R fine))) in
    unsettled_by (get s.values.promises p) (not_met (is_settled (get s.values.promises p)) _ (back_empty (Q ++ P) R fine)) (w.owned p made)

pub did_resolve : (old : State) (p : ℕ) (cap : Cap) (done : OwnDone) → Within old None [] → DoResolve old p cap (Ok done) → DidQuietly old done
did_resolve old p cap done w does = by (unless_out (resolve_refusals old p cap) _ done does)
  where
    open_ : get old.values.promises p ≡ Some None
    open_ = resolve_open old p cap w (no_faults (resolve_refusals old p cap) _ done does)

    by : Resolves old p cap (Ok done) → DidQuietly old done
    by (inl h) = ok_out h.1
    by (inr h) =
        let parts = quietly_out (Settle old p cap) done (unless_out (value_refusals old cap) _ done h.1) in
        let settles = settle_closes old p cap parts.0 parts.1 open_ ((sound_within old None [] w).opens.open_promises p open_) in
        rw (parts.2) (closes_quietly old parts.0.0 parts.0.1 settles.0 settles.1.exits)

-- A question that is finished.
told_quiet : (b : Bool) (q : ℕ) (release : Bool) → NoneLeaves (told_if b (Rattle.cp_vat_machine.specs.Go.finish_of q release))
told_quiet true q release s = refl
told_quiet false q release s = refl

finish_by : (old : State) (q : ℕ) (kept : QuestionEntry) (stage : Stage) (done : OwnDone) → FinishBy old q kept stage (Ok done) → DidQuietly old done
finish_by old q kept stages.Open done does =
    rw
    (ok_in _ _ does)
    (closes_quietly old _ (with_questions old (with_stage old.entries.questions q stages.Finished)) (same_closes old _ refl refl refl refl) (told_quiet kept.is_sent q true))
finish_by old q kept stages.Returned done does =
    rw (ok_in _ _ does) (closes_quietly old _ (without_question old q) (question_goes old q) (told_quiet kept.is_sent q false))
finish_by old q kept stages.Finished done does = absurd does

finishes : (old : State) (q : ℕ) (o : Option (Exchange QuestionEntry)) (done : OwnDone) → Finishes old q o (Ok done) → DidQuietly old done
finishes old q None done does = absurd does
finishes old q (Some entry) done does = finish_by old q entry.kept entry.stage done does

pub did_finish : (old : State) (q : ℕ) (done : OwnDone) → DoFinish old q (Ok done) → DidQuietly old done
did_finish old q done does =
    finishes old q (get old.entries.questions q) done
    (unless_out {F = VatFault} (fault_if (not (is_own_question old q)) refusals.UnknownQuestion ++ fault_if (is_question_used old q) refusals.InUse)
    (Finishes old q (get old.entries.questions q)) done does)

pub did_release : (old : State) (i : ℕ) (done : OwnDone) → DoRelease old i (Ok done) → DidQuietly old done
did_release old i done does =
    rw
    (ok_in _ _ (unless_out {A = OwnDone} {F = VatFault} (fault_if (is_import_used old i) refusals.InUse ++ fault_if (is_none (get old.counts.imports i)) refusals.UnknownImport)
    (λ out. out ≡ Ok (values.Nothing, release_of i (count_of old.counts.imports i) ∷ [], without_import old i)) done does))
    (closes_quietly old _ (without_import old i) (import_goes old i) (λ s. refl))

pub did_forget : (old : State) (p : ℕ) (done : OwnDone) → DoForget old p (Ok done) → DidQuietly old done
did_forget old p done does =
    rw
    (ok_in _ _ (unless_out {A = OwnDone} {F = VatFault}
    (fault_if (is_none (get old.values.promises p)) refusals.UnknownPromise ++ fault_if (is_unsettled (get old.values.promises p)) refusals.Unsettled
    ++ fault_if (is_promise_used old p) refusals.InUse)
    (λ out. out ≡ Ok (values.Nothing, [], without_promise old p)) done does))
    (closes_quietly old [] (without_promise old p) (promise_goes old p) (λ s. refl))

pub did_idle : (old : State) (done : OwnDone) → DoIdle old (Ok done) → DidQuietly old done
did_idle old done does = rw (ok_in _ _ does) (closes_quietly old [] old (same_closes old old refl refl refl refl) (λ s. refl))
