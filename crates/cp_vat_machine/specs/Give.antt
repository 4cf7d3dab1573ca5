-- How an outcome is given, and how a promise is settled. (rpc.capnp: "Return", "Resolve", "Finish".)
use Rattle.std.specs.Prelude.{◌≡◌, ℕ, ◌==◌, not, ◌⊎◌, if◌then◌else◌, false, Bool, List, [], ◌∷◌, Some, Result, Ok}
use Rattle.std.specs.FinMap.{get, insert, remove, retain_keys}
use Rattle.cp_tables.specs.Table.{with_change}
use Rattle.cp_tables.specs.Exchange.{with_stage}
use Rattle.cp_tables.specs.declared.exchange.Exchange.{Exchange}
use Rattle.cp_tables.specs.declared.exchange.Stage.{Stage}
use Rattle.cp_tables.specs.declared.exchange.Stage.TheVariants as stages
use Rattle.cp_messages.specs.declared.returned.Returned.{Returned}
use Rattle.cp_messages.specs.declared.returned.Returned.TheVariants as returns
use Rattle.cp_messages.specs.declared.resolve.Resolution.{Resolution}
use Rattle.cp_messages.specs.declared.resolve.Resolution.TheVariants as resolutions
use Rattle.cp_messages.specs.declared.message.Message.TheVariants as messages
use Rattle.cp_refs.specs.At.{cap_at}
use Rattle.cp_refs.specs.declared.cap.Cap.{Cap}
use Rattle.cp_refs.specs.declared.cap.Cap.TheVariants as caps
use Rattle.cp_refs.specs.declared.call.Origin.{Origin}
use Rattle.cp_refs.specs.declared.call.Origin.TheVariants as origins
use Rattle.cp_refs.specs.declared.outcome.Outcome.{Outcome}
use Rattle.cp_refs.specs.declared.outcome.Outcome.TheVariants as outcomes
use Rattle.cp_vat_machine.specs.State.{State, with_over}
use Rattle.cp_vat_machine.specs.Then.{Done, Then, after}
use Rattle.cp_vat_machine.specs.Writing.{ResolvesTo, IsExport, HasNoExport, WritesEnd, WritesDescriptors, mentions_of}
use Rattle.cp_vat_machine.specs.Texts.{promise_loop}
use Rattle.cp_vat_machine.specs.declared.effect.Effect.{Effect}
use Rattle.cp_vat_machine.specs.declared.effect.Effect.TheVariants as effects
use Rattle.cp_vat_machine.specs.declared.entry.AnswerEntry.{AnswerEntry}
use Rattle.cp_vat_machine.specs.declared.entry.QuestionEntry.{QuestionEntry}
use Rattle.cp_vat_machine.specs.declared.entry.Tied.{Tied}
use Rattle.cp_vat_machine.specs.declared.fault.PeerFault.{PeerFault}

-- the Return of an answer: it leaves the exports that the params named as they are
abbrev pub return_of : ℕ → Returned → Effect
return_of a returned = effects.Send (messages.Return (record { answer_id = a; release_param_caps = false; returned = returned }))

abbrev pub resolve_of : ℕ → Resolution → Effect
resolve_of e resolution = effects.Send (messages.Resolve (record { promise_id = e; resolution = resolution }))

-- Resolving by what a value comes to: by its exception if it fails, else by its descriptor.
abbrev pub ResolvesEnd : State → Cap → Result (Resolution × State) PeerFault → Type 0
ResolvesEnd old (caps.Broken x) out = out ≡ Ok (resolutions.Exception x, old)
ResolvesEnd old other out = Then (WritesEnd old other) (λ said out. out ≡ Ok (resolutions.Cap said.0, said.1)) out

-- A promise that is settled is reported to the peer once, if it is exported.
abbrev pub Tells : State → ℕ → Cap → Result Done PeerFault → Type 0
Tells old p last out =
    (HasNoExport old (caps.Promise p) × (out ≡ Ok ([], old)))
    ⊎ ((e : ℕ) × IsExport old e (caps.Promise p) × Then (ResolvesEnd old last) (λ said out. out ≡ Ok (resolve_of e said.0 ∷ [], said.1)) out)

-- the promise has this value from now on, and its gate has ended
abbrev pub settled : State → ℕ → Cap → State
settled s p value =
    record s {
      values = record s.values { promises = insert s.values.promises p (Some value) };
      waiting = record s.waiting { over = record s.waiting.over { promises = insert s.waiting.over.promises p value } };
    }

-- what a promise is settled to, by what its value comes to: one that would lead back to it breaks it
abbrev pub value_for : ℕ → Cap → Cap → Cap
value_for p (caps.Promise r) value = if r == p then caps.Broken promise_loop else value
value_for p other value = value

-- what that comes to
abbrev pub last_for : ℕ → Cap → Cap
last_for p last = value_for p last last

-- a promise is settled
abbrev pub Settle : State → ℕ → Cap → Result Done PeerFault → Type 0
Settle old p value out = (last : Cap) × ResolvesTo old.values value last × Tells (settled old p (value_for p last value)) p (last_for p last) out

-- the promises tied to an answer are settled to what it gave at their paths, in the order in which they were opened
abbrev pub SettleTied : State → Outcome → List Tied → Result Done PeerFault → Type 0
SettleTied old outcome [] out = out ≡ Ok ([], old)
SettleTied old outcome (tied ∷ more) out =
    Then (Settle old tied.promise (cap_at outcome tied.path)) (λ first. Then (SettleTied first.1 outcome more) (λ rest out. out ≡ Ok (after first.0 rest))) out

-- how an outcome is returned
abbrev pub Returns : State → Outcome → Result (Returned × State) PeerFault → Type 0
Returns old (outcomes.Results content table) out =
    Then (WritesDescriptors old table) (λ said out. out ≡ Ok (returns.Results (record { content = content; cap_table = said.0 }), said.1)) out
Returns old (outcomes.Failed x) out = out ≡ Ok (returns.Exception x, old)
Returns old outcomes.Canceled out = out ≡ Ok (returns.Canceled, old)

-- the exports that a Return names
abbrev pub returned_mentions : Returned → List ℕ
returned_mentions (returns.Results p) = mentions_of p.cap_table
returned_mentions other = []

-- an answer's gate has ended with this outcome
abbrev pub answer_over : State → ℕ → Outcome → State
answer_over s a outcome = with_over s (record s.waiting.over { answers = insert s.waiting.over.answers a outcome })

-- the answer was given: it is kept for its Finish, with the exports that its Return named
abbrev pub given : State → ℕ → AnswerEntry → Outcome → Returned → State
given s a kept outcome returned =
    record (answer_over s a outcome) {
      values = record s.values { answers = insert s.values.answers a (Some outcome) };
      entries =
          record s.entries {
            answers = insert s.entries.answers a (record { stage = stages.Returned; kept = record kept { mentions = returned_mentions returned; tied = [] } });
          };
    }

-- the answer was given after its Finish: it is gone
abbrev pub gone : State → ℕ → Outcome → State
gone s a outcome =
    record (answer_over s a outcome) {
      values = record s.values { answers = remove s.values.answers a };
      entries = record s.entries { answers = remove s.entries.answers a };
    }

-- An answer is given: its Return goes out, and the promises tied to it are settled. After its Finish the Return says that it was canceled.
abbrev pub GiveBy : State → ℕ → Outcome → AnswerEntry → Stage → Result Done PeerFault → Type 0
GiveBy old a outcome kept stages.Open out =
    Then
    (Returns old outcome)
    (λ said. Then (SettleTied (given said.1 a kept outcome said.0) outcome kept.tied) (λ rest out. out ≡ Ok (after (return_of a said.0 ∷ []) rest)))
    out
GiveBy old a outcome kept stages.Finished out =
    Then (SettleTied (gone old a outcome) outcome kept.tied) (λ rest out. out ≡ Ok (after (return_of a returns.Canceled ∷ []) rest)) out
GiveBy old a outcome kept stages.Returned out = ⊥

abbrev pub GiveAnswer : State → ℕ → Outcome → Result Done PeerFault → Type 0
GiveAnswer old a outcome out = (entry : Exchange AnswerEntry) × (get old.entries.answers a ≡ Some entry) × GiveBy old a outcome entry.kept entry.stage out

-- a question's gate has ended with this outcome
abbrev pub question_over : State → ℕ → Outcome → State
question_over s q outcome = with_over s (record s.waiting.over { questions = insert s.waiting.over.questions q outcome })

-- the question came to this, and is kept until it is finished
abbrev pub question_settled : State → ℕ → Outcome → State
question_settled s q outcome =
    record (question_over s q outcome) {
      values = record s.values { questions = with_change s.values.questions q (λ question. record question { outcome = Some outcome }) };
      entries = record s.entries { questions = with_stage s.entries.questions q stages.Returned };
    }

-- The first number of a path's key is its question.
abbrev pub is_path_of : ℕ → List ℕ → Bool
is_path_of q [] = false
is_path_of q (first ∷ path) = first == q

-- the question is gone, and the marks on its paths with it
abbrev pub without_question : State → ℕ → State
without_question s q =
    record s {
      values = record s.values { questions = remove s.values.questions q };
      entries = record s.entries { questions = remove s.entries.questions q };
      marks = record s.marks { paths = retain_keys s.marks.paths (λ key. not (is_path_of q key)) };
    }

-- An own question is settled, which is reported to the application unless it finished the question.
abbrev pub GiveOwnBy : State → ℕ → Outcome → Stage → Result Done PeerFault → Type 0
GiveOwnBy old q outcome stages.Open out = out ≡ Ok (effects.Settled q outcome ∷ [], question_settled old q outcome)
GiveOwnBy old q outcome stages.Finished out = out ≡ Ok ([], without_question (question_over old q outcome) q)
GiveOwnBy old q outcome stages.Returned out = ⊥

abbrev pub GiveOwn : State → ℕ → Outcome → Result Done PeerFault → Type 0
GiveOwn old q outcome out = (entry : Exchange QuestionEntry) × (get old.entries.questions q ≡ Some entry) × GiveOwnBy old q outcome entry.stage out

-- an outcome is given to whom a call's outcome is for
abbrev pub Give : State → Origin → Outcome → Result Done PeerFault → Type 0
Give old (origins.Answer a) outcome out = GiveAnswer old a outcome out
Give old (origins.Own q) outcome out = GiveOwn old q outcome out
