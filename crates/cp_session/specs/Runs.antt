-- What is done with a session, whatever it is.
use Rattle.std.specs.Prelude.{◌≡◌, ℕ, List, [], ◌∷◌, ◌++◌, Option, Result, Ok, take, option_to_list}
use Rattle.cp_vat_machine.specs.declared.event.Event as machine
use Rattle.cp_vat_machine.specs.declared.event.Event.TheVariants as own_calls
use Rattle.cp_vat_machine.specs.declared.event.Value.{Value}
use Rattle.cp_vat_machine.specs.declared.event.Value.TheVariants as values
use Rattle.cp_connection.specs.declared.fault.ConnectionFault.{ConnectionFault}
use Rattle.cp_connection.specs.Link.{Link}
use Rattle.cp_connection.specs.Lives.{IsCall}
use Rattle.cp_refs.specs.declared.outcome.Outcome.{Outcome}
use Rattle.cp_objects.specs.declared.letters.Letter.{Letter}
use Rattle.cp_objects.specs.declared.letters.LetterBody.{LetterBody}
use Rattle.cp_objects.specs.ObjectTable.{ObjectTableKind}
use Rattle.cp_dispatch.specs.Receiving.{IsCutShort, is_unreceived, ran_out}
use Rattle.cp_dispatch.specs.declared.event.SessionEvent.{SessionEvent}
use Rattle.cp_session.specs.declared.progress.Phase.{Phase}
use Rattle.cp_session.specs.declared.progress.Phase.TheVariants as phases
use Rattle.cp_session.specs.Doing.{Closes, Delivers, Did, EndsBytes, EndsCut, FinishesQuestion, GivesBack, HandsOn, IsRefused, IsUntaken, PollsOn, Receives, ReleasesOutcome, RunsOut, Tells, Ticks, Wakes, Writes}
use Rattle.cp_session.specs.State.{State, link_of}

-- a call that the program made, and what it gave
pub record Call : Type 0 where
  pub event : machine.Event
  pub result : Result Value ConnectionFault

-- What one call of a session did. It was given these bytes, of which its connection took those, and dropped the others; and it was told that these were written,
-- and at these times that the peer's bytes ended. The program made these calls, released these outcomes, woke these objects, delivered these letters, refused the peer at these
-- times, and said at those that time passed. These events were handed out, and so were these letters to other sessions. All the times that it was given are these.
pub record Transfer : Type 0 where
  pub given : List ℕ
  pub taken : List ℕ
  pub written : List ℕ
  pub ended : List ℕ
  pub called : List Call
  pub released : List Outcome
  pub roused : List ℕ
  pub delivered : List LetterBody
  pub refused : List ℕ
  pub ticked : List ℕ
  pub told : List SessionEvent
  pub sent : List Letter
  pub times : List ℕ

-- nothing of all this
abbrev pub nothing : Transfer
nothing =
    record { given = []; taken = []; written = []; ended = []; called = []; released = []; roused = []; delivered = []; refused = []; ticked = []; told = []; sent = []; times = [] }

-- a call at this time, and nothing else of all this
abbrev pub called_at : ℕ → Transfer
called_at now = record nothing { times = now ∷ [] }

-- the peer's bytes ended at this time, and nothing else of all this
abbrev pub ending_at : ℕ → Transfer
ending_at now = record (called_at now) { ended = now ∷ [] }

-- one after the other
abbrev pub both : Transfer → Transfer → Transfer
both one other = record {
  given = one.given ++ other.given;
  taken = one.taken ++ other.taken;
  written = one.written ++ other.written;
  ended = one.ended ++ other.ended;
  called = one.called ++ other.called;
  released = one.released ++ other.released;
  roused = one.roused ++ other.roused;
  delivered = one.delivered ++ other.delivered;
  refused = one.refused ++ other.refused;
  ticked = one.ticked ++ other.ticked;
  told = one.told ++ other.told;
  sent = one.sent ++ other.sent;
  times = one.times ++ other.times;
}

-- these bytes were given at this time, and what the connection took of them
abbrev pub giving : ℕ → List ℕ → List ℕ → Transfer
giving now given taken = record (called_at now) { given = given; taken = taken }

-- what a connection takes of bytes that are given: none while its peer's close is waited for
abbrev pub taken_in : Phase → List ℕ → List ℕ
taken_in (phases.Draining since) given = []
taken_in other given = given

-- what a connection took of a piece that was cut short
abbrev pub taken_by : {H : Type 0} {old : Link} {piece : List ℕ} {fault : ConnectionFault} {new : Link} {objects others : H}
    → IsCutShort old piece fault new objects others → List ℕ
taken_by (is_unreceived taken unreceived same) = taken
taken_by {piece = piece} (ran_out count mid received lives memory) = take count piece

module _ {H : Type 0} (table : ObjectTableKind H) where
  -- one call of a session
  pub data Does (old : State H) : Transfer → State H → Type 0 where
    receives : {transfer : Transfer} {new : State H} (piece : List ℕ) (now count : ℕ) → Receives table old piece now count new
        → transfer ≡ giving now (take count piece) (taken_in old.progress.phase (take count piece)) → Does old transfer new
    fails : {transfer : Transfer} {new : State H} (piece : List ℕ) (now : ℕ) (fault : ConnectionFault) (cut : IsUntaken table old piece now fault new)
        → transfer ≡ giving now [] (taken_by cut.cut.cut) → Does old transfer new
    ends : {transfer : Transfer} {new : State H} (now : ℕ) → EndsBytes table old now new → transfer ≡ ending_at now → Does old transfer new
    ends_inside : {transfer : Transfer} {new : State H} (now : ℕ) (fault : ConnectionFault) → EndsCut table old now fault new → transfer ≡ ending_at now → Does old transfer new
    polls : {transfer : Transfer} {new : State H} (now : ℕ) → PollsOn table old now new → transfer ≡ called_at now → Does old transfer new
    runs_out : {transfer : Transfer} {new : State H} (now : ℕ) → RunsOut table old now new → transfer ≡ called_at now → Does old transfer new
    writes : {transfer : Transfer} {new : State H} (count now : ℕ) → Writes table old count now new
        → transfer ≡ record (called_at now) { written = take count (link_of old).unwritten } → Does old transfer new
    ticks : {transfer : Transfer} {new : State H} (now : ℕ) → Ticks table old now new → transfer ≡ record (called_at now) { ticked = now ∷ [] } → Does old transfer new
    refuses : {transfer : Transfer} {new : State H} (now : ℕ) → IsRefused table old now new → transfer ≡ record (called_at now) { refused = now ∷ [] } → Does old transfer new
    closes : {transfer : Transfer} {new : State H} (now : ℕ) → Closes table old now new → transfer ≡ called_at now → Does old transfer new
    tells : {transfer : Transfer} {new : State H} (event : Option SessionEvent) → Tells old event new → transfer ≡ record nothing { told = option_to_list event } → Does old transfer new
    wakes : {transfer : Transfer} {new : State H} (object : ℕ) → Wakes table object old new → transfer ≡ record nothing { roused = object ∷ [] } → Does old transfer new
    hands_on : {transfer : Transfer} {new : State H} (letter : Option Letter) → HandsOn table letter old new → transfer ≡ record nothing { sent = option_to_list letter }
        → Does old transfer new
    delivers : {transfer : Transfer} {new : State H} (body : LetterBody) → Delivers table body old new → transfer ≡ record nothing { delivered = body ∷ [] } → Does old transfer new
    calls : {transfer : Transfer} {new : State H} (call : Call) → IsCall call.event → Did old call.event call.result new → transfer ≡ record nothing { called = call ∷ [] } → Does old transfer new
    gives_back : {transfer : Transfer} {new : State H} (import : ℕ) (result : Result Value ConnectionFault) → GivesBack import old result new
        → transfer ≡ record nothing { called = record { event = own_calls.Release import; result = result } ∷ [] } → Does old transfer new
    finishes : {transfer : Transfer} {new : State H} (question : ℕ) → FinishesQuestion table question old new
        → transfer ≡ record nothing { called = record { event = own_calls.Finish question; result = Ok values.Nothing } ∷ [] } → Does old transfer new
    releases : {transfer : Transfer} {new : State H} (outcome : Outcome) → ReleasesOutcome outcome old new → transfer ≡ record nothing { released = outcome ∷ [] }
        → Does old transfer new

  -- Calls of a session, one after another, and nothing else, which together did this.
  pub data Runs (first : State H) : Transfer → State H → Type 0 where
    begins : Runs first nothing first
    goes_on : {before transfer all : Transfer} {mid new : State H} → Runs first before mid → Does mid transfer new → all ≡ both before transfer → Runs first all new
