-- What the application's other calls do. (rpc.capnp: "Bootstrap", "Return", "Resolve", "Finish", "Release".)
use Rattle.std.specs.Prelude.{◌≡◌, ◌⊎◌, ℕ, not, ◌&&◌, true, false, Bool, if◌then◌else◌, List, [], ◌∷◌, ◌++◌, Option, Some, None, is_none, Result, Ok, Err}
use Rattle.std.specs.List.{list_any}
use Rattle.std.specs.FinMap.{get, insert, remove}
use Rattle.std.specs.FinSet as set
use Rattle.cp_tables.specs.Counted.{count_of}
use Rattle.cp_tables.specs.Exchange.{with_stage}
use Rattle.cp_tables.specs.declared.exchange.Exchange.{Exchange}
use Rattle.cp_tables.specs.declared.exchange.Stage.{Stage}
use Rattle.cp_tables.specs.declared.exchange.Stage.TheVariants as stages
use Rattle.cp_messages.specs.declared.message.Message.TheVariants as messages
use Rattle.cp_refs.specs.declared.cap.Cap.{Cap}
use Rattle.cp_refs.specs.declared.cap.Cap.TheVariants as caps
use Rattle.cp_refs.specs.declared.call.Origin.{Origin}
use Rattle.cp_refs.specs.declared.call.Origin.TheVariants as origins
use Rattle.cp_refs.specs.declared.outcome.Outcome.{Outcome}
use Rattle.cp_refs.specs.declared.values.QuestionKind.TheVariants as kinds
use Rattle.cp_vat_machine.specs.State.{State, with_questions}
use Rattle.cp_vat_machine.specs.Then.{Done, Then, fault_if, Unless, OrFull}
use Rattle.cp_vat_machine.specs.Capacity.{Fresh, cap_fits, outcome_fits}
use Rattle.cp_vat_machine.specs.Writing.{ResolvesTo}
use Rattle.cp_vat_machine.specs.Give.{Give, Settle, without_question}
use Rattle.cp_vat_machine.specs.Go.{finish_of}
use Rattle.cp_vat_machine.specs.Resolving.{release_of}
use Rattle.cp_vat_machine.specs.InUse.{is_import_used, is_promise_used, is_question_used, idle_imports, idle_promises, is_own_question, has_question, has_promise, has_import, is_pipelined, is_unsettled, caps_of}
use Rattle.cp_vat_machine.specs.Calling.{OwnDone, asked, not_all}
use Rattle.cp_vat_machine.specs.declared.effect.Effect.{Effect}
use Rattle.cp_vat_machine.specs.declared.effect.Effect.TheVariants as effects
use Rattle.cp_vat_machine.specs.declared.entry.AnswerEntry.{AnswerEntry}
use Rattle.cp_vat_machine.specs.declared.entry.QuestionEntry.{QuestionEntry}
use Rattle.cp_vat_machine.specs.declared.event.Value.TheVariants as values
use Rattle.cp_vat_machine.specs.declared.fault.PeerFault.{PeerFault}
use Rattle.cp_vat_machine.specs.declared.fault.VatFault.{VatFault}
use Rattle.cp_vat_machine.specs.declared.fault.VatFault.TheVariants as refusals

-- what a call without a value does
abbrev pub quietly : Done → OwnDone
quietly done = (values.Nothing, done.0, done.1)

abbrev pub Quietly : (Result Done PeerFault → Type 0) → Result OwnDone PeerFault → Type 0
Quietly Rule out = Then Rule (λ done out. out ≡ Ok (quietly done)) out

-- `bootstrap` asks for the peer's bootstrap capability.
abbrev pub DoBootstrap : State → Result OwnDone VatFault → Type 0
DoBootstrap old out =
    OrFull
    (Then
    (Fresh old.entries.questions)
    (λ q out.
    out
    ≡ Ok (
      values.Question q,
      effects.Send (messages.Bootstrap (record { question_id = q })) ∷ [],
      asked old q kinds.Wire None true,
    )))
    out

-- A call that was delivered here and isn't answered.
abbrev pub is_ungiven : Bool → Stage → Bool
is_ungiven is_delivered stages.Returned = false
is_ungiven is_delivered other = is_delivered

abbrev pub is_ungiven_answer : Option (Exchange AnswerEntry) → Bool
is_ungiven_answer None = false
is_ungiven_answer (Some entry) = is_ungiven entry.kept.is_delivered entry.stage

abbrev pub is_ungiven_question : Option (Exchange QuestionEntry) → Bool
is_ungiven_question None = false
is_ungiven_question (Some entry) = is_ungiven entry.kept.is_delivered entry.stage

abbrev pub awaits : State → Origin → Bool
awaits s (origins.Answer a) = is_ungiven_answer (get s.entries.answers a)
awaits s (origins.Own q) = is_ungiven_question (get s.entries.questions q)

-- `answer` gives an outcome, which names no question's path.
abbrev pub answer_refusals : State → Origin → Outcome → List VatFault
answer_refusals s origin outcome =
    fault_if (not (awaits s origin && not (not_all (has_question s) (caps_of outcome)))) refusals.UnknownQuestion
    ++ fault_if (not_all (has_promise s) (caps_of outcome)) refusals.UnknownPromise
    ++ fault_if (list_any is_pipelined (caps_of outcome)) refusals.Unsettled
    ++ fault_if (not (outcome_fits outcome)) refusals.TooLarge
    ++ fault_if (not_all (has_import s) (caps_of outcome)) refusals.UnknownImport

abbrev pub DoAnswer : State → Origin → Outcome → Result OwnDone VatFault → Type 0
DoAnswer old origin outcome out = Unless (answer_refusals old origin outcome) (OrFull (Quietly (Give old origin outcome))) out

-- `promise` makes an open promise.
abbrev pub promise_made : State → ℕ → State
promise_made s p =
    record s {
      values = record s.values { promises = insert s.values.promises p None };
      entries = record s.entries { own_promises = set.insert s.entries.own_promises p };
    }

abbrev pub DoPromise : State → Result OwnDone VatFault → Type 0
DoPromise old out = OrFull (Then (Fresh old.values.promises) (λ p out. out ≡ Ok (values.Promise p, [], promise_made old p))) out

-- `resolve` settles a promise that the application made.
abbrev pub is_made : State → ℕ → Bool
is_made s p = set.contains s.entries.own_promises p

abbrev pub is_settled : Option (Option Cap) → Bool
is_settled (Some (Some value)) = true
is_settled other = false

abbrev pub resolve_refusals : State → ℕ → Cap → List VatFault
resolve_refusals s p cap =
    fault_if (not (has_question s cap)) refusals.UnknownQuestion
    ++ fault_if (not (is_made s p && has_promise s cap)) refusals.UnknownPromise
    ++ fault_if (is_settled (get s.values.promises p)) refusals.AlreadyResolved

abbrev pub value_refusals : State → Cap → List VatFault
value_refusals s cap =
    fault_if (is_pipelined cap) refusals.Unsettled
    ++ fault_if (not (cap_fits cap)) refusals.TooLarge
    ++ fault_if (not (has_import s cap)) refusals.UnknownImport

-- A value must not lead back to its own promise. The cycle is looked for after the other tests of the promise and before those of the value.
abbrev pub Resolves : State → ℕ → Cap → Result OwnDone VatFault → Type 0
Resolves old p cap out =
    (ResolvesTo old.values cap (caps.Promise p) × (out ≡ Err refusals.PromiseCycle))
    ⊎ ((ResolvesTo old.values cap (caps.Promise p) → ⊥) × Unless (value_refusals old cap) (OrFull (Quietly (Settle old p cap))) out)

abbrev pub DoResolve : State → ℕ → Cap → Result OwnDone VatFault → Type 0
DoResolve old p cap out = Unless (resolve_refusals old p cap) (Resolves old p cap) out

-- `finish` gives a question up. After its outcome the question is gone; before it, it stays until then. The peer gets a Finish where the call was sent.
abbrev pub told_if : Bool → Effect → List Effect
told_if is_sent effect = if is_sent then (effect ∷ []) else []

abbrev pub FinishBy : State → ℕ → QuestionEntry → Stage → Result OwnDone VatFault → Type 0
FinishBy old q kept stages.Open out =
    out ≡ Ok (values.Nothing, told_if kept.is_sent (finish_of q true), with_questions old (with_stage old.entries.questions q stages.Finished))
FinishBy old q kept stages.Returned out = out ≡ Ok (values.Nothing, told_if kept.is_sent (finish_of q false), without_question old q)
FinishBy old q kept stages.Finished out = ⊥

abbrev pub Finishes : State → ℕ → Option (Exchange QuestionEntry) → Result OwnDone VatFault → Type 0
Finishes old q None out = ⊥
Finishes old q (Some entry) out = FinishBy old q entry.kept entry.stage out

abbrev pub DoFinish : State → ℕ → Result OwnDone VatFault → Type 0
DoFinish old q out =
    Unless
    (fault_if (not (is_own_question old q)) refusals.UnknownQuestion ++ fault_if (is_question_used old q) refusals.InUse)
    (Finishes old q (get old.entries.questions q))
    out

-- `release` gives an import back, with its whole count.
abbrev pub without_import : State → ℕ → State
without_import s i =
    record s {
      values = record s.values { imports = remove s.values.imports i };
      counts = record s.counts { imports = remove s.counts.imports i };
      marks = record s.marks { imports = remove s.marks.imports i };
    }

abbrev pub DoRelease : State → ℕ → Result OwnDone VatFault → Type 0
DoRelease old i out =
    Unless
    (fault_if (is_import_used old i) refusals.InUse ++ fault_if (is_none (get old.counts.imports i)) refusals.UnknownImport)
    (λ out. out ≡ Ok (values.Nothing, release_of i (count_of old.counts.imports i) ∷ [], without_import old i))
    out

-- `forget` drops a settled promise.
abbrev pub without_promise : State → ℕ → State
without_promise s p =
    record s {
      values = record s.values { promises = remove s.values.promises p };
      entries = record s.entries { own_promises = set.remove s.entries.own_promises p };
    }

abbrev pub DoForget : State → ℕ → Result OwnDone VatFault → Type 0
DoForget old p out =
    Unless
    (fault_if (is_none (get old.values.promises p)) refusals.UnknownPromise
    ++ fault_if (is_unsettled (get old.values.promises p)) refusals.Unsettled
    ++ fault_if (is_promise_used old p) refusals.InUse)
    (λ out. out ≡ Ok (values.Nothing, [], without_promise old p))
    out

-- `idle` gives the imports and the promises that aren't in use, and changes nothing.
abbrev pub DoIdle : State → Result OwnDone VatFault → Type 0
DoIdle old out = out ≡ Ok (values.Idle (idle_imports old) (idle_promises old), [], old)
