-- What holds of one vat within an event: gates may be over, a call may be in hand, and promises may wait for what an answer gave.
-- (rpc.capnp: "Four Tables", "Call", "Disembargo".)
use Rattle.std.specs.Prelude.{◌≡◌, ℕ, ◌+◌, ◌<◌, not, ◌&&◌, Bool, true, false, List, Option, Some, None, is_some, IfSome, option_to_list, IsTrue}
use Rattle.std.specs.List.{list_any, AllByRecursion}
use Rattle.std.specs.FinMap.{get}
use Rattle.std.specs.FinSet as set
use Rattle.cp_tables.specs.Table.{Table}
use Rattle.cp_tables.specs.Counted.{AreCounts}
use Rattle.cp_tables.specs.declared.counted.Counted.{Counted}
use Rattle.cp_tables.specs.declared.exchange.Exchange.{Exchange}
use Rattle.cp_tables.specs.declared.exchange.Stage.TheVariants as stages
use Rattle.cp_refs.specs.Route.{HasRoute}
use Rattle.cp_refs.specs.Values.{ValueMaps}
use Rattle.cp_refs.specs.declared.cap.Cap.{Cap}
use Rattle.cp_refs.specs.declared.call.WaitingCall.{WaitingCall}
use Rattle.cp_refs.specs.declared.call.Origin.{Origin}
use Rattle.cp_refs.specs.declared.call.Origin.TheVariants as origins
use Rattle.cp_refs.specs.declared.outcome.Outcome.{Outcome}
use Rattle.cp_refs.specs.declared.route.Gate.{Gate}
use Rattle.cp_refs.specs.declared.values.QuestionState.{QuestionState}
use Rattle.cp_vat_machine.specs.State.{State, gave}
use Rattle.cp_vat_machine.specs.Go.{PendingCall}
use Rattle.cp_vat_machine.specs.InUse.{caps_of, is_pipelined, is_pipelined_of, is_at_question, is_unsettled, is_local_path}
use Rattle.cp_vat_machine.specs.Local.{is_open_stage, is_origin, waiting_of, forwarding_of, one_if, IsTicketOf, ForwardsRightly, tied_to, tied_in, HasNoTied, IsExportable, AreOne, IsThere, AnswerIs, QuestionIs, is_wire, IsSentIf, IsOpenIf, IsUngivenAt, IsImportMark, IsPathMark, AreMarkedOnce, HasWaiting}
use Rattle.cp_vat_machine.specs.declared.entry.AnswerEntry.{AnswerEntry}
use Rattle.cp_vat_machine.specs.declared.entry.QuestionEntry.{QuestionEntry}
use Rattle.cp_vat_machine.specs.declared.entry.Tied.{Tied}

-- the call in hand has this origin
abbrev pub is_in_hand : Option Origin → Origin → Bool
is_in_hand hand origin = list_any (is_origin origin) (option_to_list hand)

-- A call that has no outcome is in exactly one place, which may be in hand.
abbrev pub HasAnswerPlace : State → Option Origin → ℕ → Exchange AnswerEntry → Type 0
HasAnswerPlace s hand a entry =
    IsTrue (is_open_stage entry.stage)
    → one_if (is_in_hand hand (origins.Answer a)) + waiting_of s (origins.Answer a) + one_if entry.kept.is_delivered + forwarding_of s a ≡ 1

abbrev pub HasQuestionPlace : State → Option Origin → ℕ → Exchange QuestionEntry → Type 0
HasQuestionPlace s hand q entry =
    IsTrue (is_open_stage entry.stage)
    → one_if (is_in_hand hand (origins.Own q)) + waiting_of s (origins.Own q) + one_if entry.kept.is_delivered + one_if entry.kept.is_sent ≡ 1

-- A waiting call is kept under its ticket, which is that of its origin, and was given before.
abbrev pub WaitsFor : State → ℕ → WaitingCall → Type 0
WaitsFor s ticket call = (call.ticket ≡ ticket) × (ticket < s.next_ticket) × IsTicketOf s call.origin ticket

-- Open promises are the application's, or tied to exactly one answer, or among those that are settled next.
abbrev pub AreTiedRightly : State → List Tied → ℕ → Type 0
AreTiedRightly s next p =
    tied_in s p + tied_to p next ≡ one_if (is_unsettled (get s.values.promises p) && not (set.contains s.entries.own_promises p))

-- what promises, imports, answers and questions came to
pub record AreValues (P : Cap → Type 0) (values : ValueMaps) : Type 0 where
  pub promises : (p : ℕ) (value : Cap) → get values.promises p ≡ Some (Some value) → P value
  pub imports : (i : ℕ) (value : Cap) → get values.imports i ≡ Some (Some value) → P value
  pub answers : (a : ℕ) (outcome : Outcome) → get values.answers a ≡ Some (Some outcome) → AllByRecursion P (caps_of outcome)
  pub questions : (q : ℕ) (question : QuestionState) (outcome : Outcome) → get values.questions q ≡ Some question → question.outcome ≡ Some outcome
      → AllByRecursion P (caps_of outcome)

-- and what waiting calls, embargoes and exports name
pub record AreKept (P : Cap → Type 0) (values : ValueMaps) (calls : Table WaitingCall) (embargoes : Table Cap) (exports : Table (Counted Cap)) : Type 0 where
  pub values_ : AreValues P values
  pub calls_ : (ticket : ℕ) → IfSome (get calls ticket) (λ call. AllByRecursion P call.request.caps)
  pub embargoes_ : (n : ℕ) → IfSome (get embargoes n) P
  pub exports_ : (e : ℕ) → IfSome (get exports e) (λ entry. P entry.kept)

-- All that the vat keeps is such.
abbrev pub AllKept : (Cap → Type 0) → State → Type 0
AllKept P s = AreKept P s.values s.waiting.calls s.marks.embargoes s.counts.exports

-- it names no path of a question
abbrev pub IsPlain : Cap → Type 0
IsPlain cap = is_pipelined cap ≡ false

-- What a promise, an import or an outcome may come to: it names no path of a question, it exists, and its way ends.
abbrev pub IsFit : State → Cap → Type 0
IsFit s cap = IsPlain cap × IsThere s cap × HasRoute s.values cap

-- Calls wait for an answer that isn't over only while it is kept and not given.
abbrev pub IsUngivenIf : State → Option Cap → Gate → Type 0
IsUngivenIf s None gate = IsUngivenAt s gate
IsUngivenIf s (Some cap) gate = Unit {0}

-- a call that isn't at a path of this question, and whose table names none
abbrev pub IsOff : ℕ → WaitingCall → Type 0
IsOff q call = (is_at_question q call.gate ≡ false) × (list_any (is_pipelined_of q) call.request.caps ≡ false)

-- What holds of an open vat within an event, with the origin of the call in hand, if one is, and the promises that are settled next.
pub record Within (s : State) (hand : Option Origin) (next : List Tied) : Type 0 where
  -- under the number of a gate that is over nothing is open, and what it gave is fit to be a value
  pub over_answers : (a : ℕ) (outcome : Outcome) → get s.waiting.over.answers a ≡ Some outcome → get s.values.answers a ≡ Some None → ⊥
  pub over_promises : (p : ℕ) (value : Cap) → get s.waiting.over.promises p ≡ Some value → get s.values.promises p ≡ Some None → ⊥
  pub over_questions : (q : ℕ) (outcome : Outcome) (question : QuestionState) → get s.waiting.over.questions q ≡ Some outcome
      → get s.values.questions q ≡ Some question → question.outcome ≡ None → ⊥
  pub over_embargoes : (n : ℕ) (value : Cap) → get s.waiting.over.embargoes n ≡ Some value → get s.marks.embargoes n ≡ None
  pub gifts : (gate : Gate) (cap : Cap) → gave s.waiting.over gate ≡ Some cap → IsFit s cap
  -- each call without an outcome has one place, and each waiting call is one of these
  pub answers : (a : ℕ) → IfSome (get s.entries.answers a) (HasAnswerPlace s hand a)
  pub questions : (q : ℕ) → IfSome (get s.entries.questions q) (HasQuestionPlace s hand q)
  pub waiting : (ticket : ℕ) → IfSome (get s.waiting.calls ticket) (WaitsFor s ticket)
  pub forwards : (q : ℕ) → IfSome (get s.entries.questions q) (λ entry. ForwardsRightly s entry.kept.forwards entry.kept.ticket)
  -- a question on the wire was sent, unless its call is in hand, and so was one that forwards, which is open
  pub wire : (q : ℕ) → IfSome (get s.entries.questions q) (λ entry. is_in_hand hand (origins.Own q) ≡ false → IsSentIf (is_wire (get s.values.questions q)) entry.kept)
  pub forwarding : (q : ℕ) → IfSome (get s.entries.questions q) (λ entry. IsOpenIf entry.kept.forwards entry)
  -- calls wait for an answer that isn't over only while it is kept and not given, and none of their capabilities is a path of an open local question
  pub gates_kept : (ticket : ℕ) → IfSome (get s.waiting.calls ticket) (λ call. IsUngivenIf s (gave s.waiting.over call.gate) call.gate)
  pub sendable : (ticket : ℕ) → IfSome (get s.waiting.calls ticket) (λ call. AllByRecursion (λ cap. is_local_path s cap ≡ false) call.request.caps)
  -- open promises are the application's, or tied to one answer, or settled next
  pub tied : (p : ℕ) → AreTiedRightly s next p
  pub untied : (a : ℕ) → IfSome (get s.entries.answers a) HasNoTied
  pub owned : (p : ℕ) → set.contains s.entries.own_promises p ≡ true → is_some (get s.values.promises p) ≡ true
  -- exports are counted, each for one capability
  pub counts : AreCounts s.counts.exports
  pub imported : AreCounts s.counts.imports
  pub exports : (e : ℕ) → IfSome (get s.counts.exports e) (λ entry. IsExportable s entry.kept)
  pub one_export : AreOne s
  -- what is kept exists, and its way ends
  pub there : AllKept (IsThere s) s
  pub ends : AllKept (HasRoute s.values) s
  -- an embargo leads to an object or a promise of this end, nothing came to a question's path, and no call waits for a finished question
  pub embargoed : (n : ℕ) → IfSome (get s.marks.embargoes n) (IsExportable s)
  pub plain : AreValues IsPlain s.values
  pub finished : (q : ℕ) (entry : Exchange QuestionEntry) → get s.entries.questions q ≡ Some entry → entry.stage ≡ stages.Finished
      → (ticket : ℕ) → IfSome (get s.waiting.calls ticket) (IsOff q)
  -- entries and values are of the same numbers
  pub answers_valued : (a : ℕ) → AnswerIs (get s.entries.answers a) (get s.values.answers a)
  pub questions_valued : (q : ℕ) → QuestionIs (get s.entries.questions q) (get s.values.questions q)
  pub imports_valued : (i : ℕ) → is_some (get s.counts.imports i) ≡ is_some (get s.values.imports i)
  -- a mark and its embargo name each other, and somebody waits there; a marked path is of a question on the wire
  pub import_marks : (i : ℕ) → IfSome (get s.marks.imports i) (IsImportMark s i)
  pub path_marks : (key : List ℕ) → IfSome (get s.marks.paths key) (IsPathMark s key)
  pub one_mark : AreMarkedOnce s
  pub waited_for : (n : ℕ) → IfSome (get s.marks.embargoes n) (λ value. HasWaiting s n)

-- a capability table names no path of a finished question
abbrev pub NamesNoneFinished : State → List Cap → Type 0
NamesNoneFinished s table =
    (q : ℕ) (entry : Exchange QuestionEntry) → get s.entries.questions q ≡ Some entry → entry.stage ≡ stages.Finished → list_any (is_pipelined_of q) table ≡ false

-- What holds of a call in hand: it has the ticket of its origin, which is given and isn't that of a waiting call, and its capabilities may be sent.
pub record IsInHand (s : State) (call : PendingCall) : Type 0 where
  pub whose : IsTicketOf s call.origin call.ticket
  pub given : call.ticket < s.next_ticket
  pub free : get s.waiting.calls call.ticket ≡ None
  pub sendable : AllByRecursion (λ cap. is_local_path s cap ≡ false) call.request.caps
  pub there : AllByRecursion (IsThere s) call.request.caps
  pub ends : AllByRecursion (HasRoute s.values) call.request.caps
  pub unfinished : NamesNoneFinished s call.request.caps
