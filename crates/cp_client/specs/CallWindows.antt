-- How calls go of which several are under way.
use Rattle.std.specs.Prelude.{◌≡◌, ℕ, true, false, nat_lt, if◌then◌else◌, List, [], ◌∷◌, ◌++◌, Option, Some, None, Ok, Err, length, drop, refl}
use Rattle.std.specs.Coded.{Coded, code_by, coded×, coded_ℕ, coded_list}
use Rattle.cp_refs.specs.declared.call.Request.{Request}
use Rattle.cp_refs.specs.declared.outcome.Outcome.{Outcome}
use Rattle.cp_vat_machine.specs.declared.event.Event.TheVariants as events
use Rattle.cp_connection.specs.declared.fault.ConnectionFault.TheVariants as connection_faults
use Rattle.cp_interfaces.specs.declared.fault.NoResults.{NoResults}
use Rattle.cp_interfaces.specs.declared.payload.ResultPayload.{ResultPayload}
use Rattle.cp_interfaces.specs.Payloads.{Comes}
use Rattle.cp_client.specs.declared.fault.ClientFault.{ClientFault}
use Rattle.cp_client.specs.declared.fault.ClientFault.TheVariants as client_faults
use Rattle.cp_client.specs.declared.fault.CallError.{CallError}
use Rattle.cp_client.specs.declared.fault.CallError.TheVariants as faults
use Rattle.cp_client.specs.Conversation.{Conversation}
use Rattle.cp_objects.specs.ObjectTable.{ObjectTableKind}
use Rattle.cp_objects.specs.SessionCap.{is_of}
use Rattle.cp_objects.specs.declared.session_cap.SessionCap.{SessionCap}
use Rattle.cp_client.specs.Calls.{Asks, AsksOrNot, Finishes, IsUndone}
use Rattle.cp_client.specs.Waits.{Stops, Waits}

-- The most calls that are under way, and the questions under way, the oldest first.
pub record Flow : Type 0 where
  pub window : ℕ
  pub under_way : List ℕ

-- no call is under way
abbrev pub new_flow : ℕ → Flow
new_flow window = record { window = window; under_way = [] }

-- the oldest question
abbrev pub oldest : List ℕ → Option ℕ
oldest [] = None
oldest (q ∷ qs) = Some q

-- the question that has to end before another is asked: the oldest, where as many calls are under way as the window has
abbrev pub due : Flow → Option ℕ
due flow = if nat_lt (length flow.under_way) flow.window then None else oldest flow.under_way

-- an outcome is results; or it is none, for this reason
abbrev pub ComesTo : Outcome → Option NoResults → Type 0
ComesTo outcome None = (results : ResultPayload) × Comes 0 outcome (Ok results)
ComesTo outcome (Some reason) = Comes 0 outcome (Err reason)

-- Of objects of one table.
module _ {H : Type 0} (table : ObjectTableKind H) where
  -- The outcome of a question was waited for. It is results, and the question was given up.
  pub record Ends (old : Conversation H) (q : ℕ) (new : Conversation H) : Type 0 where
    pub outcome : Outcome
    pub results : ComesTo outcome None
    pub told : Conversation H
    pub waits : Waits table old q outcome told
    pub finishes : Finishes table told q new

  -- these questions ended, one after another
  abbrev pub EndsEach : Conversation H → List ℕ → Conversation H → Type 0
  EndsEach old [] new = new ≡ old
  EndsEach old (q ∷ qs) new = (mid : Conversation H) × Ends old q mid × EndsEach mid qs new

  -- Why the oldest of the questions under way didn't end: its outcome isn't given out, and it stays under way; or that is no results, and it was given up; or
  -- it can't be given up, and its outcome is lost.
  pub data IsUnended (asked : List ℕ) (old : Conversation H) (q : ℕ) (fault : CallError) (left : List ℕ) (new : Conversation H) : Type 0 where
    untold : (f : ClientFault) → fault ≡ faults.Client f → left ≡ asked → Stops table old q f new → IsUnended asked old q fault left new
    failed : (reason : NoResults) (outcome : Outcome) (told : Conversation H) → fault ≡ faults.NoResults reason → left ≡ drop 1 asked → Waits table old q outcome told
        → ComesTo outcome (Some reason) → Finishes table told q new → IsUnended asked old q fault left new
    unfinished : (f : ClientFault) (outcome : Outcome) (told : Conversation H) → fault ≡ faults.Client f → left ≡ drop 1 asked → Waits table old q outcome told
        → IsUndone told (events.Finish q) f new → IsUnended asked old q fault left new

  -- There is room for one more call, once the question ended that has to. These are under way then.
  abbrev pub MakesRoom : List ℕ → Conversation H → Option ℕ → List ℕ → Conversation H → Type 0
  MakesRoom asked old None left new = (left ≡ asked) × (new ≡ old)
  MakesRoom asked old (Some q) left new = (left ≡ drop 1 asked) × Ends old q new

  -- why there is no room: the question didn't end that has to
  abbrev pub IsFull : Flow → Conversation H → CallError → List ℕ → Conversation H → Type 0
  IsFull flow old fault left new = (q : ℕ) × (due flow ≡ Some q) × IsUnended flow.under_way old q fault left new

  -- A capability of the client's session was called, once there was room. The call is under way.
  pub record Sends (flow : Flow) (old : Conversation H) (target : SessionCap) (request : Request) (sent : Flow) (new : Conversation H) : Type 0 where
    pub left : List ℕ
    pub mid : Conversation H
    pub room : MakesRoom flow.under_way old (due flow) left mid
    pub own : is_of mid.number target ≡ true
    pub question : ℕ
    pub asks : Asks mid (events.Call target.cap request) question new
    pub noted : sent ≡ record flow { under_way = left ++ question ∷ [] }

  -- Why no call is under way that wasn't: there is no room; or the capability is another session's; or its call isn't made; or it is, and memory ran out for its
  -- question.
  pub data IsUnsent (flow : Flow) (old : Conversation H) (target : SessionCap) (request : Request) (fault : CallError) (left : List ℕ) (new : Conversation H) : Type 0 where
    full : IsFull flow old fault left new → IsUnsent flow old target request fault left new
    foreign : fault ≡ faults.Client client_faults.OtherSession → MakesRoom flow.under_way old (due flow) left new → is_of new.number target ≡ false
        → IsUnsent flow old target request fault left new
    uncalled : (f : ClientFault) (mid : Conversation H) → fault ≡ faults.Client f → MakesRoom flow.under_way old (due flow) left mid → is_of mid.number target ≡ true
        → AsksOrNot mid target.cap request (Err f) new → IsUnsent flow old target request fault left new
    forgotten : (q : ℕ) (mid : Conversation H) → fault ≡ faults.Client (client_faults.Connection connection_faults.OutOfMemory)
        → MakesRoom flow.under_way old (due flow) left mid → is_of mid.number target ≡ true → Asks mid (events.Call target.cap request) q new
        → IsUnsent flow old target request fault left new

  -- Some of the questions under way ended, one after another, and the next one didn't.
  pub record Breaks (asked : List ℕ) (old : Conversation H) (fault : CallError) (left : List ℕ) (new : Conversation H) : Type 0 where
    pub ended : List ℕ
    pub q : ℕ
    pub rest : List ℕ
    pub in_order : asked ≡ ended ++ q ∷ rest
    pub mid : Conversation H
    pub ends : EndsEach old ended mid
    pub unended : IsUnended (q ∷ rest) mid q fault left new

abbrev pub flow_code : Coded Flow
flow_code =
    code_by
    (ℕ × List ℕ)
    (coded× coded_ℕ (coded_list coded_ℕ))
    (λ flow. (flow.window, flow.under_way))
    (λ parts. record { window = parts.0; under_way = parts.1 })
    (λ _. refl)
