-- What a call of the application, or a message of the peer, does to a connection.
use Rattle.std.specs.Prelude.{◌≡◌, ◌≢◌, ◌⊎◌, ℕ, if◌then◌else◌, true, false, List, [], ◌∷◌, ◌++◌, Option, Some, None, Result, Ok, Err, length}
use Rattle.cp_frame.specs.Reader as frames
use Rattle.cp_vat_machine.specs.Asked.{stage_of}
use Rattle.cp_vat_machine.specs.Run.{Moment}
use Rattle.cp_vat_machine.specs.State.{new_state}
use Rattle.cp_vat_machine.specs.Supported.{is_supported_to_caller}
use Rattle.cp_vat_machine.specs.declared.effect.Effect.{Effect}
use Rattle.cp_vat_machine.specs.declared.event.Event.{Event}
use Rattle.cp_vat_machine.specs.declared.event.Value.{Value}
use Rattle.cp_vat_machine.specs.declared.fault.VatFault.{VatFault}
use Rattle.cp_vat_machine.specs.declared.fault.VatFault.TheVariants as refusals
use Rattle.cp_tail_calls.specs.Bridging.{sent_of}
use Rattle.cp_tail_calls.specs.Serving.{Served, Serves, closes}
use Rattle.cp_connection.specs.declared.excess.Excess.{Excess}
use Rattle.cp_connection.specs.declared.fault.ConnectionFault.{ConnectionFault}
use Rattle.cp_connection.specs.declared.fault.ConnectionFault.TheVariants as faults
use Rattle.cp_connection.specs.Refusing.{refusal_of}
use Rattle.cp_connection.specs.Counting.{CountsMore}
use Rattle.cp_connection.specs.Effects.{happening_by, AreFramesOf}
use Rattle.cp_connection.specs.Excess.{abort_of}
use Rattle.cp_connection.specs.Link.{Link}

-- why a connection ends by an event: memory ran out, or the vat closed
abbrev pub ended_by : Result Value VatFault → List Effect → Option ConnectionFault
ended_by (Err refusals.OutOfMemory) effects = Some faults.OutOfMemory
ended_by (Err refusal) effects = None
ended_by (Ok value) effects = if closes effects then Some faults.Closed else None

-- the vat of a connection, and the tail calls before it
abbrev pub served : Link → Served
served link = record { vat = link.vat; tails = link.tails }

-- The vat of an open connection did one event, behind tail calls where they are served. The frames of what is sent come after the bytes that weren't written,
-- and what happens after what wasn't taken. (Without tail calls that is one step of the vat.)
pub record Does (old : Link) (event : Event) (result : Result Value VatFault) (new : Link) : Type 0 where
  pub was_open : old.fault ≡ None
  pub history : List Moment
  pub effects : List Effect
  pub serves : Serves is_supported_to_caller stage_of (served old) event result history effects (served new)
  pub bytes : List ℕ
  pub are_frames : AreFramesOf old.mode (sent_of effects) bytes
  pub goes_out : new.unwritten ≡ old.unwritten ++ bytes
  pub happens : new.happened ≡ old.happened ++ happening_by effects
  pub counts : CountsMore old.stats.sent (length (sent_of effects)) new.stats.sent
  pub same_stats : new.stats ≡ record old.stats { sent = new.stats.sent }
  pub ends : new.fault ≡ ended_by result effects
  pub same_mode : new.mode ≡ old.mode
  pub same_limits : new.limits ≡ old.limits
  pub same_reading : new.reading ≡ old.reading

-- the connection had ended for this fault, and nothing changes
abbrev pub HadEnded : Link → ConnectionFault → Link → Type 0
HadEnded old fault new = (old.fault ≡ Some fault) × (new ≡ old)

-- The vat refuses the event. Only an allocation failure changes anything.
abbrev pub Refuses : Link → Event → ConnectionFault → Link → Type 0
Refuses old event fault new =
    (refusal : VatFault) × (fault ≡ refusal_of refusal) × Does old event (Err refusal) new × (refusal ≢ refusals.OutOfMemory → new ≡ old)

-- What a call of the application gives: the value of what the vat did, or why it didn't.
abbrev pub Acts : Link → Event → Result Value ConnectionFault → Link → Type 0
Acts old event (Ok value) new = Does old event (Ok value) new
Acts old event (Err fault) new = HadEnded old fault new ⊎ Refuses old event fault new

-- the fault for which it ended before, or else this one
abbrev pub first_fault : Option ConnectionFault → ConnectionFault → ConnectionFault
first_fault None fault = fault
first_fault (Some first) fault = first

-- It ended for this fault, unless it ended before. Its vat is closed and keeps nothing, nor do tail calls, and nothing is left of the open frame.
abbrev pub let_go : Link → ConnectionFault → Link
let_go link fault = record link {
  reading = frames.reading [] 0;
  vat = record (new_state None) { is_closed = true };
  tails = None;
  fault = Some (first_fault link.fault fault);
}

-- A connection is aborted: its vat is closed, and what that keeps goes. The frame of the Abort that says what is too much comes after the bytes that weren't
-- written; where memory ran out for it, it isn't sent. Where the vat was closed, nothing changes.
pub data Aborts (old : Link) (excess : Excess) (new : Link) : Type 0 where
  tells : (bytes : List ℕ) (sent : ℕ) → old.vat.is_closed ≡ false → AreFramesOf old.mode (abort_of excess ∷ []) bytes → CountsMore old.stats.sent 1 sent
      → new ≡ record (let_go old faults.Closed) { unwritten = old.unwritten ++ bytes; stats = record old.stats { sent = sent } } → Aborts old excess new
  runs_out : old.vat.is_closed ≡ false → new ≡ let_go old faults.OutOfMemory → Aborts old excess new
  was_closed : old.vat.is_closed ≡ true → new ≡ old → Aborts old excess new

module _ {A : Type 0} where
  -- the value, or the fault
  abbrev pub answered : (A → Value) → Result A ConnectionFault → Result Value ConnectionFault
  answered value (Ok x) = Ok (value x)
  answered value (Err fault) = Err fault
