-- What is in use, and what the application's calls are refused for. (rpc.capnp: "Release", "Finish".)
use Rattle.std.specs.Prelude.{ℕ, ◌==◌, not, ◌&&◌, ◌||◌, true, false, cond, Bool, List, [], ◌++◌, filter, flat_map, Option, Some, None, is_some, option_to_list}
use Rattle.std.specs.List.{list_any}
use Rattle.std.specs.FinMap.{get, entries, keys, values}
use Rattle.cp_tables.specs.declared.exchange.Exchange.{Exchange}
use Rattle.cp_tables.specs.declared.exchange.Stage.{Stage}
use Rattle.cp_tables.specs.declared.exchange.Stage.TheVariants as stages
use Rattle.cp_refs.specs.declared.cap.Cap.{Cap}
use Rattle.cp_refs.specs.declared.cap.Cap.TheVariants as caps
use Rattle.cp_refs.specs.declared.call.WaitingCall.{WaitingCall}
use Rattle.cp_refs.specs.declared.outcome.Outcome.{Outcome}
use Rattle.cp_refs.specs.declared.outcome.Outcome.TheVariants as outcomes
use Rattle.cp_refs.specs.declared.route.Gate.{Gate}
use Rattle.cp_refs.specs.declared.route.Gate.TheVariants as gates
use Rattle.cp_refs.specs.declared.values.QuestionState.{QuestionState}
use Rattle.cp_refs.specs.declared.values.QuestionKind.{QuestionKind}
use Rattle.cp_refs.specs.declared.values.QuestionKind.TheVariants as kinds
use Rattle.cp_vat_machine.specs.State.{State}
use Rattle.cp_vat_machine.specs.declared.entry.QuestionEntry.{QuestionEntry}

-- it is this object, this promise, this import, or a path of this question
abbrev pub is_object : ℕ → Cap → Bool
is_object k (caps.Object j) = j == k
is_object k other = false

abbrev pub is_promise : ℕ → Cap → Bool
is_promise p (caps.Promise q) = q == p
is_promise p other = false

abbrev pub is_import : ℕ → Cap → Bool
is_import i (caps.Import j) = j == i
is_import i other = false

abbrev pub is_pipelined_of : ℕ → Cap → Bool
is_pipelined_of q (caps.Pipelined p path) = p == q
is_pipelined_of q other = false

-- the capabilities of an outcome
abbrev pub caps_of : Outcome → List Cap
caps_of (outcomes.Results content table) = table
caps_of other = []

abbrev pub caps_given : Option Outcome → List Cap
caps_given None = []
caps_given (Some outcome) = caps_of outcome

-- the calls that wait
abbrev pub waiting_calls : State → List WaitingCall
waiting_calls s = values s.waiting.calls

-- The capabilities that are the value of a promise, are in a kept answer or in an unfinished question's results, or in a waiting call's table.
abbrev pub kept_caps : State → List Cap
kept_caps s =
    flat_map option_to_list (values s.values.promises)
    ++ flat_map caps_given (values s.values.answers)
    ++ flat_map (λ question. caps_given question.outcome) (values s.values.questions)
    ++ flat_map (λ call. call.request.caps) (waiting_calls s)

-- the values of the imports but this one
abbrev pub value_unless : ℕ → ℕ × Option Cap → List Cap
value_unless i entry = cond (entry.0 == i) [] (option_to_list entry.1)

abbrev pub other_values : State → ℕ → List Cap
other_values s i = flat_map (λ entry. value_unless i entry) (entries s.values.imports)

-- an import is in use where it is kept, or is another import's value
abbrev pub is_import_used : State → ℕ → Bool
is_import_used s i = list_any (is_import i) (kept_caps s) || list_any (is_import i) (other_values s i)

-- calls wait at this promise, or at a path of this question
abbrev pub is_at_promise : ℕ → Gate → Bool
is_at_promise p (gates.Promise q) = q == p
is_at_promise p other = false

abbrev pub is_at_question : ℕ → Gate → Bool
is_at_question q (gates.Question p path) = p == q
is_at_question q other = false

-- a promise without a value
abbrev pub is_unsettled : Option (Option Cap) → Bool
is_unsettled (Some None) = true
is_unsettled other = false

-- A promise is in use where it is kept or an import's value, while it is open or exported, where calls wait at it, and where an embargo leads.
abbrev pub is_promise_used : State → ℕ → Bool
is_promise_used s p =
    list_any (is_promise p) (kept_caps s)
    || list_any (is_promise p) (flat_map option_to_list (values s.values.imports))
    || is_unsettled (get s.values.promises p)
    || list_any (λ entry. is_promise p entry.kept) (values s.counts.exports)
    || list_any (λ call. is_at_promise p call.gate) (waiting_calls s)
    || list_any (is_promise p) (values s.marks.embargoes)

-- what a Bootstrap gets is this object
abbrev pub is_bootstrap : ℕ → Option ℕ → Bool
is_bootstrap k None = false
is_bootstrap k (Some j) = j == k

-- An object is in use where it is kept or an import's value, while it is exported or given to a Bootstrap, and where an embargo leads.
abbrev pub is_object_used : State → ℕ → Bool
is_object_used s k =
    list_any (is_object k) (kept_caps s)
    || list_any (is_object k) (flat_map option_to_list (values s.values.imports))
    || list_any (λ entry. is_object k entry.kept) (values s.counts.exports)
    || list_any (is_object k) (values s.marks.embargoes)
    || is_bootstrap k s.bootstrap

-- a question is in use where calls wait at it, and where a waiting call's table names it
abbrev pub is_question_used : State → ℕ → Bool
is_question_used s q =
    list_any (λ call. is_at_question q call.gate) (waiting_calls s)
    || list_any (λ call. list_any (is_pipelined_of q) call.request.caps) (waiting_calls s)

-- the imports and the promises that aren't in use, each rising
abbrev pub idle_imports : State → List ℕ
idle_imports s = filter (λ i. not (is_import_used s i)) (keys s.counts.imports)

abbrev pub idle_promises : State → List ℕ
idle_promises s = filter (λ p. not (is_promise_used s p)) (keys s.values.promises)

-- a question that the application asked and didn't finish
abbrev pub is_unfinished : Stage → Bool
is_unfinished stages.Finished = false
is_unfinished other = true

abbrev pub is_own : Option (Exchange QuestionEntry) → Bool
is_own None = false
is_own (Some entry) = not (is_some entry.kept.forwards) && is_unfinished entry.stage

abbrev pub is_own_question : State → ℕ → Bool
is_own_question s q = is_own (get s.entries.questions q)

-- a capability whose question is the application's, whose promise exists, whose import is held
abbrev pub has_question : State → Cap → Bool
has_question s (caps.Pipelined q path) = is_own_question s q
has_question s other = true

abbrev pub has_promise : State → Cap → Bool
has_promise s (caps.Promise p) = is_some (get s.values.promises p)
has_promise s other = true

abbrev pub has_import : State → Cap → Bool
has_import s (caps.Import i) = is_some (get s.counts.imports i)
has_import s other = true

-- a question's path, which results and resolutions never name
abbrev pub is_pipelined : Cap → Bool
is_pipelined (caps.Pipelined q path) = true
is_pipelined other = false

-- A path of an open local question, which the peer doesn't know.
abbrev pub is_open_here : QuestionKind → Option Outcome → Bool
is_open_here kinds.Local None = true
is_open_here kind outcome = false

abbrev pub is_question_here : Option QuestionState → Bool
is_question_here None = false
is_question_here (Some question) = is_open_here question.kind question.outcome

abbrev pub is_local_path : State → Cap → Bool
is_local_path s (caps.Pipelined q path) = is_question_here (get s.values.questions q)
is_local_path s other = false
