-- What the application's other calls do, found by computing.
use Rattle.std.specs.Prelude.{◌≡◌, refl, ℕ, zero, suc, not, ◌&&◌, Bool, true, false, List, [], ◌∷◌, ◌++◌, Option, Some, None, is_none, is_some, Result, Ok, Err}
use Rattle.std.proofs.Common.{sym, ap, ◌∙◌, inl, inr, true≢false}
use Rattle.std.specs.List.{list_any}
use Rattle.std.specs.Option.{option_map_or}
use Rattle.std.specs.Ordering.{nat_cmp, eq_by_cmp}
use Rattle.cp_tables.specs.declared.exchange.Exchange.{Exchange}
use Rattle.cp_tables.specs.declared.exchange.Stage.{Stage}
use Rattle.cp_tables.specs.declared.exchange.Stage.TheVariants as stages
use Rattle.cp_messages.specs.declared.message.Message.TheVariants as messages
use Rattle.cp_refs.specs.Route.{Way, ends, leads, missing}
use Rattle.cp_refs.specs.declared.cap.Cap.{Cap}
use Rattle.cp_refs.specs.declared.cap.Cap.TheVariants as caps
use Rattle.cp_refs.specs.declared.call.Origin.{Origin}
use Rattle.cp_refs.specs.declared.call.Origin.TheVariants as origins
use Rattle.cp_refs.specs.declared.outcome.Outcome.{Outcome}
use Rattle.cp_refs.specs.declared.values.QuestionKind.TheVariants as kinds
use Rattle.cp_vat_machine.specs.State.{with_questions}
use Rattle.cp_vat_machine.specs.Then.{Done, fault_if}
use Rattle.cp_vat_machine.specs.Capacity.{cap_fits, outcome_fits}
use Rattle.cp_vat_machine.specs.Writing.{end_by}
use Rattle.cp_vat_machine.specs.Go.{finish_of}
use Rattle.cp_vat_machine.specs.InUse.{caps_of, is_own, is_pipelined, is_unsettled}
use Rattle.cp_vat_machine.specs.Calling.{not_all}
use Rattle.cp_vat_machine.specs.Resolving.{release_of}
use Rattle.cp_vat_machine.specs.Doing.{Quietly, DoBootstrap, is_ungiven_answer, is_ungiven_question, awaits, answer_refusals, DoAnswer, DoPromise, is_settled, resolve_refusals, Resolves, DoResolve, told_if, FinishBy, Finishes, DoFinish, without_import, DoRelease, without_promise, DoForget, DoIdle}
use Rattle.cp_vat_machine.specs.declared.effect.Effect.TheVariants as effects
use Rattle.cp_vat_machine.specs.declared.entry.QuestionEntry.{QuestionEntry}
use Rattle.cp_vat_machine.specs.declared.event.Value.TheVariants as values
use Rattle.cp_vat_machine.specs.declared.fault.PeerFault.{PeerFault}
use Rattle.cp_vat_machine.specs.declared.fault.VatFault.{VatFault}
use Rattle.cp_vat_machine.specs.declared.fault.VatFault.TheVariants as refusals
use Rattle.test_vat.proofs.Known.{Known, state, at, get_is, without, remove_is}
use Rattle.test_vat.proofs.Found.{Finds, lacks, found, beside, moved, unless, follow, so}
use Rattle.test_vat.proofs.Finding.{find_fresh, way_of, end_of, end_is, is_promise, same_promise, no_promise}
use Rattle.test_vat.proofs.Taking.{changed, changed_is}
use Rattle.test_vat.proofs.Giving.{find_settled, find_given, without_question_known, without_question_is}
use Rattle.test_vat.proofs.Uses.{known_question, question_there, known_promise, promise_there, known_import, import_there, import_used, import_used_is, promise_used, promise_used_is, question_used, question_used_is, known_idle_imports, idle_imports_are, known_idle_promises, idle_promises_are, others, others_are, made_is}
use Rattle.test_vat.proofs.Owning.{owned, or_full, asked_known}

abbrev pub find_quietly : {Rule : Result Done PeerFault → Type 0} → Finds beside Rule → Finds owned (Quietly Rule)
find_quietly rule = follow _ rule (λ done. found (Ok (values.Nothing, done.0, done.1)) refl)

abbrev pub find_own_bootstrap : (k : Known) → Finds owned (DoBootstrap (state k))
find_own_bootstrap k =
    or_full
    (follow
    _
    (find_fresh k.asked)
    (λ q. found (Ok (values.Question q, effects.Send (messages.Bootstrap (record { question_id = q })) ∷ [], asked_known k q kinds.Wire None true)) refl))

-- a call that was delivered here and isn't answered
abbrev pub known_awaited : Known → Origin → Bool
known_awaited k (origins.Answer a) = is_ungiven_answer (at k.answering a)
known_awaited k (origins.Own q) = is_ungiven_question (at k.asked q)

pub awaited_is : (k : Known) (origin : Origin) → awaits (state k) origin ≡ known_awaited k origin
awaited_is k (origins.Answer a) = ap is_ungiven_answer (get_is k.answering a)
awaited_is k (origins.Own q) = ap is_ungiven_question (get_is k.asked q)

abbrev pub known_answer_refusals : Known → Origin → Outcome → List VatFault
known_answer_refusals k origin outcome =
    fault_if (not (known_awaited k origin && not (not_all (known_question k) (caps_of outcome)))) refusals.UnknownQuestion
    ++ fault_if (not_all (known_promise k) (caps_of outcome)) refusals.UnknownPromise
    ++ fault_if (list_any is_pipelined (caps_of outcome)) refusals.Unsettled
    ++ fault_if (not (outcome_fits outcome)) refusals.TooLarge
    ++ fault_if (not_all (known_import k) (caps_of outcome)) refusals.UnknownImport

pub answer_refusals_are : (k : Known) (origin : Origin) (outcome : Outcome) → answer_refusals (state k) origin outcome ≡ known_answer_refusals k origin outcome
answer_refusals_are k origin outcome = λ i.
    fault_if (not (awaited_is k origin i && not (not_all (λ c. question_there k c i) (caps_of outcome)))) refusals.UnknownQuestion
    ++ fault_if (not_all (λ c. promise_there k c i) (caps_of outcome)) refusals.UnknownPromise
    ++ fault_if (list_any is_pipelined (caps_of outcome)) refusals.Unsettled
    ++ fault_if (not (outcome_fits outcome)) refusals.TooLarge
    ++ fault_if (not_all (λ c. import_there k c i) (caps_of outcome)) refusals.UnknownImport

abbrev pub find_answer : (k : Known) (origin : Origin) (outcome : Outcome) → Finds owned (DoAnswer (state k) origin outcome)
find_answer k origin outcome =
    unless _ (known_answer_refusals k origin outcome) (answer_refusals_are k origin outcome) (or_full (find_quietly (find_given k origin outcome)))

abbrev pub find_promise_made : (k : Known) → Finds owned (DoPromise (state k))
find_promise_made k =
    or_full
    (follow _ (find_fresh k.promises) (λ p. found (Ok (values.Promise p, [], record k { promises = (p, None) ∷ k.promises; own = p ∷ k.own })) refl))

-- a way has one end
pub one_end : (k : Known) (n m : ℕ) (c a b : Cap) → end_of k n c ≡ Some a → end_of k m c ≡ Some b → a ≡ b
one_end k zero m c a b e f = absurd (true≢false (sym (ap is_some e)))
one_end k (suc n) zero c a b e f = absurd (true≢false (sym (ap is_some f)))
one_end k (suc n) (suc m) c a b e f = by (way_of k c) e f (λ next e f. one_end k n m next a b e f)
  where
    inner : Option Cap → Cap
    inner None = a
    inner (Some x) = x

    by : (w : Way) → end_by (end_of k n) c w ≡ Some a → end_by (end_of k m) c w ≡ Some b → ((next : Cap) → end_of k n next ≡ Some a → end_of k m next ≡ Some b → a ≡ b) → a ≡ b
    by (ends route) e f rest = sym (ap inner e) ∙ ap inner f
    by (leads next) e f rest = rest next e f
    by missing e f rest = absurd (true≢false (sym (ap is_some e)))

abbrev pub known_resolve_refusals : Known → ℕ → Cap → List VatFault
known_resolve_refusals k p c =
    fault_if (not (known_question k c)) refusals.UnknownQuestion
    ++ fault_if (not (list_any (eq_by_cmp nat_cmp p) k.own && known_promise k c)) refusals.UnknownPromise
    ++ fault_if (is_settled (at k.promises p)) refusals.AlreadyResolved

pub resolve_refusals_are : (k : Known) (p : ℕ) (c : Cap) → resolve_refusals (state k) p c ≡ known_resolve_refusals k p c
resolve_refusals_are k p c = λ i.
    fault_if (not (question_there k c i)) refusals.UnknownQuestion
    ++ fault_if (not (made_is k p i && promise_there k c i)) refusals.UnknownPromise
    ++ fault_if (is_settled (get_is k.promises p i)) refusals.AlreadyResolved

abbrev pub find_value_settled : (k : Known) (p : ℕ) (c last : Cap) → end_of k 9 c ≡ Some last → (b : Bool) → is_promise p last ≡ b → Finds owned (Resolves (state k) p c)
find_value_settled k p c last e true is = found (Err refusals.PromiseCycle) (inl ((9, end_is k 9 c ∙ e ∙ ap Some (same_promise p last is)), refl))
find_value_settled k p c last e false is =
    so
    (λ out holds. inr (λ to. true≢false (sym (no_promise p last (one_end k 9 to.0 c last (caps.Promise p) e (sym (end_is k to.0 c) ∙ to.1))) ∙ is), holds))
    (unless
    _
    (fault_if (is_pipelined c) refusals.Unsettled ++ fault_if (not (cap_fits c)) refusals.TooLarge ++ fault_if (not (known_import k c)) refusals.UnknownImport)
    (λ i. fault_if (is_pipelined c) refusals.Unsettled ++ fault_if (not (cap_fits c)) refusals.TooLarge ++ fault_if (not (import_there k c i)) refusals.UnknownImport)
    (or_full (find_quietly (find_settled k p c))))

abbrev pub find_resolved_by : (k : Known) (p : ℕ) (c : Cap) (o : Option Cap) → end_of k 9 c ≡ o → Finds owned (Resolves (state k) p c)
find_resolved_by k p c None e = lacks
find_resolved_by k p c (Some last) e = find_value_settled k p c last e (is_promise p last) refl

abbrev pub find_resolved : (k : Known) (p : ℕ) (c : Cap) → Finds owned (DoResolve (state k) p c)
find_resolved k p c = unless _ (known_resolve_refusals k p c) (resolve_refusals_are k p c) (find_resolved_by k p c (end_of k 9 c) refl)

-- a question is given up
abbrev pub find_finish_by : (k : Known) (q : ℕ) (kept : QuestionEntry) (stage : Stage) → Finds owned (FinishBy (state k) q kept stage)
find_finish_by k q kept stages.Open =
    found
    (Ok (values.Nothing, told_if kept.is_sent (finish_of q true), record k { asked = changed k.asked q (λ entry. record entry { stage = stages.Finished }) }))
    (ap
    (λ questions. Ok (values.Nothing, told_if kept.is_sent (finish_of q true), with_questions (state k) questions))
    (sym (changed_is k.asked q (λ entry. record entry { stage = stages.Finished }))))
find_finish_by k q kept stages.Returned =
    found
    (Ok (values.Nothing, told_if kept.is_sent (finish_of q false), without_question_known k q))
    (ap (λ s. Ok (values.Nothing, told_if kept.is_sent (finish_of q false), s)) (sym (without_question_is k q)))
find_finish_by k q kept stages.Finished = lacks

abbrev pub find_finishes : (k : Known) (q : ℕ) (o : Option (Exchange QuestionEntry)) → Finds owned (Finishes (state k) q o)
find_finishes k q None = lacks
find_finishes k q (Some entry) = find_finish_by k q entry.kept entry.stage

abbrev pub find_own_finish : (k : Known) (q : ℕ) → Finds owned (DoFinish (state k) q)
find_own_finish k q =
    unless
    _
    (fault_if (not (is_own (at k.asked q))) refusals.UnknownQuestion ++ fault_if (question_used k q) refusals.InUse)
    (λ i. fault_if (not (is_own (get_is k.asked q i))) refusals.UnknownQuestion ++ fault_if (question_used_is k q i) refusals.InUse)
    (moved (Finishes (state k) q) (get_is k.asked q) (find_finishes k q (at k.asked q)))

-- an import is given back
abbrev pub without_import_known : Known → ℕ → Known
without_import_known k i =
    record k { import_values = without k.import_values i; imports = without k.imports i; marked_imports = without k.marked_imports i }

pub without_import_is : (k : Known) (n : ℕ) → without_import (state k) n ≡ state (without_import_known k n)
without_import_is k n = λ i.
    record (state k) {
      values = record (state k).values { imports = remove_is k.import_values n i };
      counts = record (state k).counts { imports = remove_is k.imports n i };
      marks = record (state k).marks { imports = remove_is k.marked_imports n i };
    }

abbrev pub import_count : Known → ℕ → ℕ
import_count k n = option_map_or (λ entry. entry.count) (at k.imports n) 0

abbrev pub find_own_release : (k : Known) (n : ℕ) → Finds owned (DoRelease (state k) n)
find_own_release k n =
    unless
    _
    (fault_if (import_used k n) refusals.InUse ++ fault_if (is_none (at k.imports n)) refusals.UnknownImport)
    (λ i. fault_if (import_used_is k n i) refusals.InUse ++ fault_if (is_none (get_is k.imports n i)) refusals.UnknownImport)
    (found
    (Ok (values.Nothing, release_of n (import_count k n) ∷ [], without_import_known k n))
    (λ i. Ok (values.Nothing, release_of n (option_map_or (λ entry. entry.count) (sym (get_is k.imports n) i) 0) ∷ [], sym (without_import_is k n) i)))

-- a promise is dropped
abbrev pub without_promise_known : Known → ℕ → Known
without_promise_known k p = record k { promises = without k.promises p; own = others k.own p }

pub without_promise_is : (k : Known) (p : ℕ) → without_promise (state k) p ≡ state (without_promise_known k p)
without_promise_is k p = λ i.
    record (state k) {
      values = record (state k).values { promises = remove_is k.promises p i };
      entries = record (state k).entries { own_promises = others_are k.own p i };
    }

abbrev pub find_forgotten : (k : Known) (p : ℕ) → Finds owned (DoForget (state k) p)
find_forgotten k p =
    unless
    _
    (fault_if (is_none (at k.promises p)) refusals.UnknownPromise
    ++ fault_if (is_unsettled (at k.promises p)) refusals.Unsettled
    ++ fault_if (promise_used k p) refusals.InUse)
    (λ i.
    fault_if (is_none (get_is k.promises p i)) refusals.UnknownPromise
    ++ fault_if (is_unsettled (get_is k.promises p i)) refusals.Unsettled
    ++ fault_if (promise_used_is k p i) refusals.InUse)
    (found (Ok (values.Nothing, [], without_promise_known k p)) (ap (λ s. Ok (values.Nothing, [], s)) (sym (without_promise_is k p))))

abbrev pub find_idle : (k : Known) → Finds owned (DoIdle (state k))
find_idle k =
    found
    (Ok (values.Idle (known_idle_imports k) (known_idle_promises k), [], k))
    (λ i. Ok (values.Idle (sym (idle_imports_are k) i) (sym (idle_promises_are k) i), [], state k))
