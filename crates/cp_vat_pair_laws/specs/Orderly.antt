-- What a vat keeps to, so that what it sends is as its accounts see it. (rpc.capnp: "Four Tables", "CapDescriptor.receiverAnswer".)
use Rattle.std.specs.Prelude.{◌≡◌, ℕ, true, false, List, Option, Some, None, Ok, IsTrue}
use Rattle.std.specs.List.{list_any}
use Rattle.std.specs.FinMap.{get}
use Rattle.cp_tables.specs.Table.{Table}
use Rattle.cp_tables.specs.declared.counted.Counted.{Counted}
use Rattle.cp_tables.specs.declared.exchange.Exchange.{Exchange}
use Rattle.cp_messages.specs.declared.message.Message.{Message}
use Rattle.cp_refs.specs.declared.cap.Cap.{Cap}
use Rattle.cp_refs.specs.declared.call.WaitingCall.{WaitingCall}
use Rattle.cp_refs.specs.declared.call.Origin.{Origin}
use Rattle.cp_refs.specs.declared.call.Origin.TheVariants as origins
use Rattle.cp_refs.specs.declared.outcome.Outcome.{Outcome}
use Rattle.cp_refs.specs.declared.route.Route.{Route}
use Rattle.cp_vat_machine.specs.State.{State, new_state}
use Rattle.cp_vat_machine.specs.Then.{Done}
use Rattle.cp_vat_machine.specs.Go.{PendingCall, Go, Leave}
use Rattle.cp_vat_machine.specs.Calling.{OwnDone}
use Rattle.cp_vat_machine.specs.Step.{Does, Receives}
use Rattle.cp_vat_machine.specs.declared.event.Event.{Event}
use Rattle.cp_vat_machine.specs.Supported.{is_supported}
use Rattle.cp_vat_machine.specs.InUse.{is_pipelined, caps_of}
use Rattle.cp_vat_machine.specs.declared.entry.QuestionEntry.{QuestionEntry}
use Rattle.cp_vat_machine.specs.declared.effect.Effect.{Effect}
use Rattle.cp_vat_pair_laws.specs.Posting.{IsUnsent, Sends, Hears}

-- a question whose call wasn't sent nor delivered, nor has an outcome
abbrev pub IsHeldBack : Option (Exchange QuestionEntry) → Type 0
IsHeldBack None = ⊥
IsHeldBack (Some entry) = IsUnsent entry × (entry.kept.is_delivered ≡ false)

-- no call of this question waits
abbrev pub NoneWaits : Table WaitingCall → ℕ → Type 0
NoneWaits calls q = (ticket : ℕ) (call : WaitingCall) → get calls ticket ≡ Some call → call.origin ≡ origins.Own q → ⊥

-- A question whose call waits is held back, and one call of it waits at most. One whose call was delivered wasn't sent.
pub record AreHeld (calls : Table WaitingCall) (questions : Table (Exchange QuestionEntry)) : Type 0 where
  pub back : (ticket : ℕ) (call : WaitingCall) (q : ℕ) → get calls ticket ≡ Some call → call.origin ≡ origins.Own q → IsHeldBack (get questions q)
  pub once : (one other : ℕ) (call more : WaitingCall) (q : ℕ) → get calls one ≡ Some call → get calls other ≡ Some more → call.origin ≡ origins.Own q
      → more.origin ≡ origins.Own q → one ≡ other
  pub here : (q : ℕ) (entry : Exchange QuestionEntry) → get questions q ≡ Some entry → entry.kept.is_delivered ≡ true → entry.kept.is_sent ≡ false

-- no promise came to a question's path, no answer that is kept was given one, and none is exported
abbrev pub IsPlainValue : Option (Option Cap) → Type 0
IsPlainValue (Some (Some value)) = is_pipelined value ≡ false
IsPlainValue other = Unit {0}

abbrev pub ArePlainValues : Table (Option Cap) → Type 0
ArePlainValues promises = (p : ℕ) → IsPlainValue (get promises p)

abbrev pub IsPlainAnswer : Option (Option Outcome) → Type 0
IsPlainAnswer (Some (Some outcome)) = list_any is_pipelined (caps_of outcome) ≡ false
IsPlainAnswer other = Unit {0}

abbrev pub ArePlainAnswers : Table (Option Outcome) → Type 0
ArePlainAnswers answers = (a : ℕ) → IsPlainAnswer (get answers a)

abbrev pub IsPlainExport : Option (Counted Cap) → Type 0
IsPlainExport None = Unit {0}
IsPlainExport (Some entry) = is_pipelined entry.kept ≡ false

abbrev pub ArePlainExports : Table (Counted Cap) → Type 0
ArePlainExports exports = (e : ℕ) → IsPlainExport (get exports e)

-- A vat's state is orderly: the questions of its waiting calls are held back, and no Return and no Resolve will name a question's path, since none is the
-- value of a promise, in an answer that was given, or exported.
pub record IsOrderly (s : State) : Type 0 where
  pub held : AreHeld s.waiting.calls s.entries.questions
  pub values : ArePlainValues s.values.promises
  pub answers : ArePlainAnswers s.values.answers
  pub exports : ArePlainExports s.counts.exports

-- a call that goes is of the peer's, or of a question that is held back and of which no other call waits
abbrev pub IsHeldAlone : State → Origin → Type 0
IsHeldAlone s (origins.Answer a) = Unit {0}
IsHeldAlone s (origins.Own q) = IsHeldBack (get s.entries.questions q) × NoneWaits s.waiting.calls q

-- what was sent from state to state is as the accounts see it, and the state after is orderly
abbrev pub Goes : State → List Effect → State → Type 0
Goes old effects new = Sends old effects new × IsOrderly new

-- what came and was sent then is as the accounts see it, and the state after is orderly
abbrev pub Heeds : State → Message → List Effect → State → Type 0
Heeds old m effects new = Hears old m effects new × IsOrderly new

-- What a new vat is, and what each rule leaves: what it sends, and what comes to it, is as its accounts see it.
pub record RulesPost : Type 0 where
  pub starts : (one : Option ℕ) → IsOrderly (new_state one)
  -- any call of the application
  pub does : (old : State) (event : Event) (done : OwnDone) → IsOrderly old → Does old event (Ok done) → Goes old done.1 done.2
  -- any message that is supported, whoever sends it
  pub receives : (old : State) (m : Message) (done : Done) → IsTrue (is_supported m) → IsOrderly old → Receives old m (Ok done) → Heeds old m done.0 done.1
  -- a call by each route, and waiting calls that leave
  pub goes : (old : State) (call : PendingCall) (route : Route) (done : Done) → IsOrderly old → IsHeldAlone old call.origin → Go old call route (Ok done)
      → Goes old done.0 done.1
  pub leaves : (old last : State) (all : List Effect) → IsOrderly old → Leave old all (Ok last) → Goes old all last
