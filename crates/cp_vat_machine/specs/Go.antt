-- Where a call goes, and how waiting calls leave. (rpc.capnp: "Call", "Finish", "Disembargo".)
use Rattle.std.specs.Prelude.{◌≡◌, ℕ, ◌≤◌, Bool, true, false, List, [], ◌∷◌, ◌++◌, Some, None, IfSome, Result, Ok, Err}
use Rattle.std.specs.FinMap.{get, insert, remove}
use Rattle.cp_tables.specs.Table.{with_change}
use Rattle.cp_tables.specs.Exchange.{new_exchange}
use Rattle.cp_tables.specs.declared.exchange.Exchange.{Exchange}
use Rattle.cp_tables.specs.declared.exchange.Stage.{Stage}
use Rattle.cp_tables.specs.declared.exchange.Stage.TheVariants as stages
use Rattle.cp_messages.specs.declared.call.SendResultsTo.TheVariants as results_to
use Rattle.cp_messages.specs.declared.descriptor.Descriptor.{Descriptor}
use Rattle.cp_messages.specs.declared.target.Target.{Target}
use Rattle.cp_messages.specs.declared.target.Target.TheVariants as targets
use Rattle.cp_messages.specs.declared.message.Message.TheVariants as messages
use Rattle.cp_refs.specs.Route.{Routes}
use Rattle.cp_refs.specs.declared.cap.Cap.{Cap}
use Rattle.cp_refs.specs.declared.call.WaitingCall.{WaitingCall}
use Rattle.cp_refs.specs.declared.call.Origin.{Origin}
use Rattle.cp_refs.specs.declared.call.Origin.TheVariants as origins
use Rattle.cp_refs.specs.declared.call.Request.{Request}
use Rattle.cp_refs.specs.declared.outcome.Outcome.TheVariants as outcomes
use Rattle.cp_refs.specs.declared.route.Gate.{Gate}
use Rattle.cp_refs.specs.declared.route.Route.{Route}
use Rattle.cp_refs.specs.declared.route.Route.TheVariants as routes
use Rattle.cp_vat_machine.specs.State.{State, gave, none_over, with_over, with_questions, with_answers}
use Rattle.cp_vat_machine.specs.Then.{Done, Then}
use Rattle.cp_vat_machine.specs.Capacity.{Fresh}
use Rattle.cp_vat_machine.specs.Writing.{WritesDescriptors, promised, mentions_of}
use Rattle.cp_vat_machine.specs.Give.{Give}
use Rattle.cp_vat_machine.specs.declared.effect.Effect.{Effect}
use Rattle.cp_vat_machine.specs.declared.effect.Effect.TheVariants as effects
use Rattle.cp_vat_machine.specs.declared.entry.QuestionEntry.{QuestionEntry}
use Rattle.cp_vat_machine.specs.declared.fault.PeerFault.{PeerFault}

-- a call on its way
pub record PendingCall : Type 0 where
  pub ticket : ℕ
  pub origin : Origin
  pub request : Request

-- the call waits at a gate
abbrev pub held_at : State → PendingCall → Gate → State
held_at s call gate =
    record s {
      waiting =
          record s.waiting { calls = insert s.waiting.calls call.ticket (record { ticket = call.ticket; origin = call.origin; request = call.request; gate = gate }) };
    }

-- the call was delivered to an object of the application
abbrev pub delivered : State → Origin → State
delivered s (origins.Answer a) =
    with_answers s (with_change s.entries.answers a (λ entry. record entry { kept = record entry.kept { is_delivered = true } }))
delivered s (origins.Own q) =
    with_questions s (with_change s.entries.questions q (λ entry. record entry { kept = record entry.kept { is_delivered = true } }))

-- the Call of a request under a question's number
abbrev pub call_of : ℕ → Target → Request → List Descriptor → Effect
call_of q target request table =
    effects.Send (
    messages.Call (
    record {
      question_id = q;
      method_id = request.method;
      send_results_to = results_to.Caller;
      interface_id = request.interface;
      target = target;
      params = record { content = request.content; cap_table = table };
    }
    )
    )

abbrev pub finish_of : ℕ → Bool → Effect
finish_of q release = effects.Send (messages.Finish (record { question_id = q; release_result_caps = release }))

-- a question that forwards a call of the peer's
abbrev pub forwarding : ℕ → PendingCall → List Descriptor → QuestionEntry
forwarding a call table =
    record { forwards = Some a; ticket = Some call.ticket; is_sent = true; is_delivered = false; mentions = mentions_of table }

-- the Call of an own question was sent
abbrev pub sent : State → ℕ → List Descriptor → State
sent s q table =
    with_questions s (with_change s.entries.questions q (λ entry. record entry { kept = record entry.kept { is_sent = true; mentions = mentions_of table } }))

-- where the application finished a question before its Call was sent, the Finish follows at once
abbrev pub finish_after : ℕ → Stage → List Effect
finish_after q stages.Finished = finish_of q true ∷ []
finish_after q other = []

-- A call goes to the peer. One of the peer's is forwarded under a new question, one of the application's goes under its own.
abbrev pub GoOut : State → PendingCall → Target → Origin → Result Done PeerFault → Type 0
GoOut old call target (origins.Answer a) out =
    Then
    (Fresh old.entries.questions)
    (λ q.
    Then
    (WritesDescriptors old call.request.caps)
    (λ said out.
    out
    ≡ Ok (
      call_of q target call.request said.0 ∷ [],
      with_questions said.1 (insert said.1.entries.questions q (new_exchange (forwarding a call said.0))),
    )))
    out
GoOut old call target (origins.Own q) out =
    (entry : Exchange QuestionEntry) × (get old.entries.questions q ≡ Some entry)
    × Then
    (WritesDescriptors old call.request.caps)
    (λ said out. out ≡ Ok (call_of q target call.request said.0 ∷ finish_after q entry.stage, sent said.1 q said.0))
    out

-- A call goes by its route: to an object, to the peer, to a gate where it stays; or it fails, which gives its origin the exception.
abbrev pub Go : State → PendingCall → Route → Result Done PeerFault → Type 0
Go old call (routes.Deliver k) out = out ≡ Ok (effects.Deliver k call.origin call.ticket call.request ∷ [], delivered old call.origin)
Go old call (routes.Import i) out = GoOut old call (targets.ImportedCap i) call.origin out
Go old call (routes.Pipe q path) out = GoOut old call (targets.PromisedAnswer (promised q path)) call.origin out
Go old call (routes.Wait gate) out = out ≡ Ok ([], held_at old call gate)
Go old call (routes.Fail x) out = Give old call.origin (outcomes.Failed x) out

-- a call goes by the route of a capability
abbrev pub GoTo : State → PendingCall → Cap → Result Done PeerFault → Type 0
GoTo old call cap out = (route : Route) × Routes old.values cap route × Go old call route out

-- no call's gate has ended
abbrev pub NoneOver : State → Type 0
NoneOver s = (ticket : ℕ) → IfSome (get s.waiting.calls ticket) (λ call. gave s.waiting.over call.gate ≡ None)

-- Of the calls whose gate has ended, this one has the lowest ticket, and its gate gave that capability.
pub record IsNext (s : State) (call : WaitingCall) (cap : Cap) : Type 0 where
  pub waits : get s.waiting.calls call.ticket ≡ Some call
  pub ended : gave s.waiting.over call.gate ≡ Some cap
  pub lowest : (ticket : ℕ) (other : WaitingCall) (given : Cap) → get s.waiting.calls ticket ≡ Some other → gave s.waiting.over other.gate ≡ Some given → call.ticket ≤ ticket

-- the call doesn't wait any more
abbrev pub without_call : State → WaitingCall → State
without_call s call = record s { waiting = record s.waiting { calls = remove s.waiting.calls call.ticket } }

abbrev pub underway : WaitingCall → PendingCall
underway call = record { ticket = call.ticket; origin = call.origin; request = call.request }

-- Waiting calls leave, each with its effects: no call's gate has ended, and the gates are forgotten; or of the calls whose gate has ended the one
-- with the lowest ticket goes, by the route of what its gate gave, and they go on leaving; or that call finds a table full.
pub data Leave : State → List Effect → Result State PeerFault → Type 0 where
  stays : {s : State} → NoneOver s → Leave s [] (Ok (with_over s none_over))
  leaves : {old mid : State} {first rest all : List Effect} {last : Result State PeerFault} (call : WaitingCall) (cap : Cap) → IsNext old call cap
      → GoTo (without_call old call) (underway call) cap (Ok (first, mid)) → Leave mid rest last → all ≡ first ++ rest → Leave old all last
  finds_table_full : {old : State} {fault : PeerFault} (call : WaitingCall) (cap : Cap) → IsNext old call cap
      → GoTo (without_call old call) (underway call) cap (Err fault) → Leave old [] (Err fault)
