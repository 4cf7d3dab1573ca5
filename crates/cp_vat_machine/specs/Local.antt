-- What holds of one vat between events. (rpc.capnp: "Four Tables", "Call", "Disembargo".)
use Rattle.std.specs.Prelude.{◌≡◌, ℕ, ◌+◌, ◌<◌, ◌==◌, not, ◌&&◌, if◌then◌else◌, Bool, true, false, List, [], ◌∷◌, ◌++◌, map, flat_map, Option, Some, None, is_some, IfSome, option_to_list, IsTrue}
use Rattle.std.specs.List.{count_by, sum_by, list_any, AllByRecursion}
use Rattle.std.specs.FinMap.{get, values}
use Rattle.std.specs.FinSet as set
use Rattle.cp_tables.specs.Counted.{AreCounts}
use Rattle.cp_tables.specs.declared.counted.Counted.{Counted}
use Rattle.cp_tables.specs.declared.exchange.Exchange.{Exchange}
use Rattle.cp_tables.specs.declared.exchange.Stage.{Stage}
use Rattle.cp_tables.specs.declared.exchange.Stage.TheVariants as stages
use Rattle.cp_refs.specs.At.{cap_at}
use Rattle.cp_refs.specs.Route.{HasRoute}
use Rattle.cp_refs.specs.declared.cap.Cap.{Cap}
use Rattle.cp_refs.specs.declared.cap.Cap.TheVariants as caps
use Rattle.cp_refs.specs.declared.call.WaitingCall.{WaitingCall}
use Rattle.cp_refs.specs.declared.call.Origin.{Origin}
use Rattle.cp_refs.specs.declared.call.Origin.TheVariants as origins
use Rattle.cp_refs.specs.declared.outcome.Outcome.{Outcome}
use Rattle.cp_refs.specs.declared.route.Gate.{Gate}
use Rattle.cp_refs.specs.declared.route.Gate.TheVariants as gates
use Rattle.cp_refs.specs.declared.values.QuestionState.{QuestionState}
use Rattle.cp_refs.specs.declared.values.QuestionKind.{QuestionKind}
use Rattle.cp_refs.specs.declared.values.QuestionKind.TheVariants as kinds
use Rattle.cp_vat_machine.specs.State.{State, none_over}
use Rattle.cp_vat_machine.specs.Calling.{mark_of}
use Rattle.cp_vat_machine.specs.InUse.{waiting_calls, kept_caps, caps_given, is_unsettled, is_pipelined, is_question_used, is_local_path}
use Rattle.cp_vat_machine.specs.declared.entry.AnswerEntry.{AnswerEntry}
use Rattle.cp_vat_machine.specs.declared.entry.QuestionEntry.{QuestionEntry}
use Rattle.cp_vat_machine.specs.declared.entry.Tied.{Tied}

-- a stage before the outcome came
abbrev pub is_open_stage : Stage → Bool
is_open_stage stages.Returned = false
is_open_stage other = true

-- it is this answer, or this question
abbrev pub is_origin : Origin → Origin → Bool
is_origin (origins.Answer a) (origins.Answer b) = b == a
is_origin (origins.Own q) (origins.Own p) = p == q
is_origin one other = false

-- how many waiting calls have this origin
abbrev pub waiting_of : State → Origin → ℕ
waiting_of s origin = count_by (λ call. is_origin origin call.origin) (waiting_calls s)

-- how many questions forward the call of an answer
abbrev pub is_forwarding : ℕ → Exchange QuestionEntry → Bool
is_forwarding a entry = list_any (λ b. b == a) (option_to_list entry.kept.forwards)

abbrev pub forwarding_of : State → ℕ → ℕ
forwarding_of s a = count_by (is_forwarding a) (values s.entries.questions)

abbrev pub one_if : Bool → ℕ
one_if holds = if holds then 1 else 0

-- A call that has no outcome is in exactly one place: it waits, or was delivered, or was forwarded; an own one waits, or was delivered, or was sent.
abbrev pub HasAnswerPlace : State → ℕ → Exchange AnswerEntry → Type 0
HasAnswerPlace s a entry =
    IsTrue (is_open_stage entry.stage) → waiting_of s (origins.Answer a) + one_if entry.kept.is_delivered + forwarding_of s a ≡ 1

abbrev pub HasQuestionPlace : State → ℕ → Exchange QuestionEntry → Type 0
HasQuestionPlace s q entry =
    IsTrue (is_open_stage entry.stage) → waiting_of s (origins.Own q) + one_if entry.kept.is_delivered + one_if entry.kept.is_sent ≡ 1

-- the call of this origin has no outcome, and this is its ticket
abbrev pub IsTicketOf : State → Origin → ℕ → Type 0
IsTicketOf s (origins.Answer a) ticket =
    (entry : Exchange AnswerEntry) × (get s.entries.answers a ≡ Some entry) × IsTrue (is_open_stage entry.stage) × (entry.kept.ticket ≡ Some ticket)
IsTicketOf s (origins.Own q) ticket =
    (entry : Exchange QuestionEntry) × (get s.entries.questions q ≡ Some entry) × IsTrue (is_open_stage entry.stage) × (entry.kept.ticket ≡ Some ticket)
    × (entry.kept.forwards ≡ None)

-- A waiting call is kept under its ticket, which is that of its origin, and was given before.
pub record IsWaiting (s : State) (ticket : ℕ) (call : WaitingCall) : Type 0 where
  pub ticketed : call.ticket ≡ ticket
  pub given : ticket < s.next_ticket
  pub whose : IsTicketOf s call.origin ticket

-- A question that forwards bears the ticket of its answer's call.
abbrev pub ForwardsRightly : State → Option ℕ → Option ℕ → Type 0
ForwardsRightly s None ticket = Unit {0}
ForwardsRightly s (Some a) None = ⊥
ForwardsRightly s (Some a) (Some ticket) = IsTicketOf s (origins.Answer a) ticket

-- how often a promise is tied to answers
abbrev pub tied_to : ℕ → List Tied → ℕ
tied_to p tied = count_by (λ t. t.promise == p) tied

abbrev pub tied_in : State → ℕ → ℕ
tied_in s p = sum_by (λ entry. tied_to p entry.kept.tied) (values s.entries.answers)

-- An open promise is the application's, or tied to exactly one answer that isn't given; no other one is tied.
abbrev pub IsTiedRightly : State → ℕ → Type 0
IsTiedRightly s p =
    tied_in s p ≡ one_if (is_unsettled (get s.values.promises p) && not (set.contains s.entries.own_promises p))

abbrev pub HasNoTied : Exchange AnswerEntry → Type 0
HasNoTied entry = IsTrue (not (is_open_stage entry.stage)) → entry.kept.tied ≡ []

-- What is exported is an object, or a promise that exists.
abbrev pub IsExportable : State → Cap → Type 0
IsExportable s (caps.Object k) = Unit {0}
IsExportable s (caps.Promise p) = IsTrue (is_some (get s.values.promises p))
IsExportable s other = ⊥

-- one export for each of them
abbrev pub AreOne : State → Type 0
AreOne s = (e f : ℕ) (one other : Counted Cap) → get s.counts.exports e ≡ Some one → get s.counts.exports f ≡ Some other → one.kept ≡ other.kept → e ≡ f

-- What a capability names exists: its promise, its import, its question.
abbrev pub IsThere : State → Cap → Type 0
IsThere s (caps.Promise p) = IsTrue (is_some (get s.values.promises p))
IsThere s (caps.Import i) = IsTrue (is_some (get s.counts.imports i))
IsThere s (caps.Pipelined q path) = IsTrue (is_some (get s.values.questions q))
IsThere s other = Unit {0}

-- all capabilities that the vat keeps
abbrev pub all_caps : State → List Cap
all_caps s =
    kept_caps s
    ++ flat_map option_to_list (values s.values.imports)
    ++ values s.marks.embargoes
    ++ map (λ entry. entry.kept) (values s.counts.exports)

-- what promises, imports, answers and questions came to
abbrev pub values_kept : State → List Cap
values_kept s =
    flat_map option_to_list (values s.values.promises)
    ++ flat_map option_to_list (values s.values.imports)
    ++ flat_map caps_given (values s.values.answers)
    ++ flat_map (λ question. caps_given question.outcome) (values s.values.questions)

-- no call waits for a question that was finished
abbrev pub IsLeft : State → ℕ → Stage → Type 0
IsLeft s q stages.Finished = is_question_used s q ≡ false
IsLeft s q other = Unit {0}

-- An answer's and a question's outcome came exactly at the stage that says so; a forwarding question has no value here, nor has it any mark.
abbrev pub IsValued : Stage → Bool → Type 0
IsValued stage has_outcome = has_outcome ≡ not (is_open_stage stage)

abbrev pub AnswerIs : Option (Exchange AnswerEntry) → Option (Option Outcome) → Type 0
AnswerIs None None = Unit {0}
AnswerIs (Some entry) (Some outcome) = IsValued entry.stage (is_some outcome)
AnswerIs entry outcome = ⊥

abbrev pub OwnIs : Option ℕ → Stage → Option QuestionState → Type 0
OwnIs None stage (Some question) = IsValued stage (is_some question.outcome)
OwnIs (Some a) stage None = Unit {0}
OwnIs forwards stage question = ⊥

abbrev pub QuestionIs : Option (Exchange QuestionEntry) → Option QuestionState → Type 0
QuestionIs None None = Unit {0}
QuestionIs None (Some question) = ⊥
QuestionIs (Some entry) question = OwnIs entry.kept.forwards entry.stage question

-- The mark of a reference with an embargo: the embargo is open, and leads to what the reference came to.
abbrev pub IsEmbargoOf : State → Option Cap → Option ℕ → Type 0
IsEmbargoOf s value None = Unit {0}
IsEmbargoOf s value (Some n) = (value ≡ get s.marks.embargoes n) × IsTrue (is_some value)

abbrev pub import_value : Option (Option Cap) → Option Cap
import_value (Some (Some value)) = Some value
import_value other = None

abbrev pub given_at : Option Outcome → List ℕ → Option Cap
given_at None path = None
given_at (Some outcome) path = Some (cap_at outcome path)

abbrev pub path_value : Option QuestionState → List ℕ → Option Cap
path_value None path = None
path_value (Some question) path = given_at question.outcome path

-- a question that the peer knows, since its Call or Bootstrap was sent at once
abbrev pub is_wire_kind : QuestionKind → Bool
is_wire_kind kinds.Wire = true
is_wire_kind kinds.Local = false

abbrev pub is_wire : Option QuestionState → Bool
is_wire None = false
is_wire (Some question) = is_wire_kind question.kind

-- Such a question was sent, and its call wasn't delivered here.
abbrev pub IsSentIf : Bool → QuestionEntry → Type 0
IsSentIf true kept = (kept.is_sent ≡ true) × (kept.is_delivered ≡ false)
IsSentIf false kept = Unit {0}

-- A question that forwards was sent, and neither was it finished nor did its Return come.
abbrev pub IsOpenIf : Option ℕ → Exchange QuestionEntry → Type 0
IsOpenIf None entry = Unit {0}
IsOpenIf (Some a) entry = (entry.stage ≡ stages.Open) × (entry.kept.is_sent ≡ true)

-- The answer of a gate is kept, and isn't given.
abbrev pub IsUngivenAt : State → Gate → Type 0
IsUngivenAt s (gates.Answer a path) = get s.values.answers a ≡ Some None
IsUngivenAt s other = Unit {0}

abbrev pub IsImportMark : State → ℕ → Option ℕ → Type 0
IsImportMark s i embargo = IsTrue (is_some (get s.counts.imports i)) × IsEmbargoOf s (import_value (get s.values.imports i)) embargo

abbrev pub IsPathMark : State → List ℕ → Option ℕ → Type 0
IsPathMark s [] embargo = ⊥
IsPathMark s (q ∷ path) embargo = IsTrue (is_wire (get s.values.questions q)) × IsEmbargoOf s (path_value (get s.values.questions q) path) embargo

-- No two references are marked under one embargo.
abbrev pub AreMarkedOnce : State → Type 0
AreMarkedOnce s = (cap other : Cap) (n : ℕ) → mark_of s cap ≡ Some (Some n) → mark_of s other ≡ Some (Some n) → cap ≡ other

abbrev pub HasWaiting : State → ℕ → Type 0
HasWaiting s n = (ticket : ℕ) × (call : WaitingCall) × (get s.waiting.calls ticket ≡ Some call) × (call.gate ≡ gates.Embargo n)

-- What holds of an open vat between events.
pub record Local (s : State) : Type 0 where
  -- no gate is over
  pub none_over_ : s.waiting.over ≡ none_over
  -- each call without an outcome has one place, and each waiting call is one of these
  pub answers : (a : ℕ) → IfSome (get s.entries.answers a) (HasAnswerPlace s a)
  pub questions : (q : ℕ) → IfSome (get s.entries.questions q) (HasQuestionPlace s q)
  pub waiting : (ticket : ℕ) → IfSome (get s.waiting.calls ticket) (IsWaiting s ticket)
  pub forwards : (q : ℕ) → IfSome (get s.entries.questions q) (λ entry. ForwardsRightly s entry.kept.forwards entry.kept.ticket)
  -- a question on the wire was sent, and so was one that forwards, which is open
  pub wire : (q : ℕ) → IfSome (get s.entries.questions q) (λ entry. IsSentIf (is_wire (get s.values.questions q)) entry.kept)
  pub forwarding : (q : ℕ) → IfSome (get s.entries.questions q) (λ entry. IsOpenIf entry.kept.forwards entry)
  -- calls wait for an answer only while it is kept and not given, and none of their capabilities is a path of an open local question
  pub gates_kept : (ticket : ℕ) → IfSome (get s.waiting.calls ticket) (λ call. IsUngivenAt s call.gate)
  pub sendable : (ticket : ℕ) → IfSome (get s.waiting.calls ticket) (λ call. AllByRecursion (λ cap. is_local_path s cap ≡ false) call.request.caps)
  -- open promises are the application's or tied to one answer
  pub tied : (p : ℕ) → IsTiedRightly s p
  pub untied : (a : ℕ) → IfSome (get s.entries.answers a) HasNoTied
  -- what the application made exists
  pub owned : (p : ℕ) → set.contains s.entries.own_promises p ≡ true → is_some (get s.values.promises p) ≡ true
  -- exports are counted, each for one capability
  pub counts : AreCounts s.counts.exports
  pub imported : AreCounts s.counts.imports
  pub exports : (e : ℕ) → IfSome (get s.counts.exports e) (λ entry. IsExportable s entry.kept)
  pub one_export : AreOne s
  -- what is kept exists, and its way ends
  pub there : AllByRecursion (IsThere s) (all_caps s)
  pub ends : AllByRecursion (HasRoute s.values) (all_caps s)
  -- an embargo leads to an object or a promise of this end
  pub embargoed : (n : ℕ) → IfSome (get s.marks.embargoes n) (IsExportable s)
  -- nothing came to a question's path, and no call waits for a finished question
  pub no_paths : AllByRecursion (λ cap. is_pipelined cap ≡ false) (values_kept s)
  pub finished : (q : ℕ) → IfSome (get s.entries.questions q) (λ entry. IsLeft s q entry.stage)
  -- entries and values are of the same numbers
  pub answers_valued : (a : ℕ) → AnswerIs (get s.entries.answers a) (get s.values.answers a)
  pub questions_valued : (q : ℕ) → QuestionIs (get s.entries.questions q) (get s.values.questions q)
  pub imports_valued : (i : ℕ) → is_some (get s.counts.imports i) ≡ is_some (get s.values.imports i)
  -- a mark and its embargo name each other, and somebody waits there; a marked path is of a question on the wire
  pub import_marks : (i : ℕ) → IfSome (get s.marks.imports i) (IsImportMark s i)
  pub path_marks : (key : List ℕ) → IfSome (get s.marks.paths key) (IsPathMark s key)
  pub one_mark : AreMarkedOnce s
  pub waited_for : (n : ℕ) → IfSome (get s.marks.embargoes n) (λ value. HasWaiting s n)
