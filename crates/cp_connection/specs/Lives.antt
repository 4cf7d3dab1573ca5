-- What holds of a connection, whatever was done with it.
use Rattle.std.specs.Prelude.{◌≡◌, ◌⊎◌, ℕ, true, false, List, [], ◌++◌, Option, Some, Result, take, option_to_list}
use Rattle.cp_words.specs.Limits.{Bounds}
use Rattle.cp_frame.specs.declared.mode.Mode.{Mode}
use Rattle.cp_frame.specs.Stream.{Open}
use Rattle.cp_stream.specs.Stream.{Messages}
use Rattle.cp_vat_machine.specs.Run.{Moment, Steps}
use Rattle.cp_vat_machine.specs.State.{new_state}
use Rattle.cp_vat_machine.specs.declared.event.Event.{Event}
use Rattle.cp_vat_machine.specs.declared.event.Event.TheVariants as events
use Rattle.cp_vat_machine.specs.declared.event.Value.{Value}
use Rattle.cp_vat_laws.specs.Sizes.{AllWritable}
use Rattle.cp_messages.specs.declared.message.Message.{Message}
use Rattle.cp_tail_calls.specs.Bridging.{messages_of, sent_in}
use Rattle.cp_connection.specs.declared.excess.Excess.{Excess}
use Rattle.cp_connection.specs.declared.fault.ConnectionFault.{ConnectionFault}
use Rattle.cp_connection.specs.declared.event.ConnectionEvent.{ConnectionEvent}
use Rattle.cp_connection.specs.Effects.{AreFramesOf, happened}
use Rattle.cp_connection.specs.Link.{Link, new_link, new_link_with_tails}
use Rattle.cp_connection.specs.Doing.{Aborts, Acts, served}
use Rattle.cp_connection.specs.Receiving.{Receives, IsUnreceived, EndsWell, EndsBadly, Wrote, HandsOut}
use Rattle.cp_connection.specs.Turns.{NoneLost, TellTurns}

-- the event is a call of the application
abbrev pub IsCall : Event → Type 0
IsCall (events.Receive m) = ⊥
IsCall call = Unit {0}

-- One call of a connection other than an abort, which takes these bytes of the peer, is told that those were written, and hands these events out.
pub data Calls (old : Link) : List ℕ → List ℕ → List ConnectionEvent → Link → Type 0 where
  receives : {taken : List ℕ} {new : Link} (piece : List ℕ) (count : ℕ) → Receives old piece count new → taken ≡ take count piece → Calls old taken [] [] new
  receives_none : {taken : List ℕ} {new : Link} (piece : List ℕ) (fault : ConnectionFault) → IsUnreceived old piece taken fault new → Calls old taken [] [] new
  ends : {new : Link} → EndsWell old new → Calls old [] [] [] new
  ends_inside : {new : Link} (fault : ConnectionFault) → EndsBadly old fault new → Calls old [] [] [] new
  acts : {new : Link} (event : Event) (result : Result Value ConnectionFault) → IsCall event → Acts old event result new → Calls old [] [] [] new
  writes : {written : List ℕ} {new : Link} (count : ℕ) → Wrote old count new → written ≡ take count old.unwritten → Calls old [] written [] new
  hands : {out : List ConnectionEvent} {new : Link} (first : Option ConnectionEvent) → HandsOut old first new → out ≡ option_to_list first → Calls old [] [] out new

-- Calls of a connection other than aborts, one after another, which together take these bytes, are told that those were written, and hand these events out.
pub data Life (first : Link) : List ℕ → List ℕ → List ConnectionEvent → Link → Type 0 where
  begins : Life first [] [] [] first
  goes_on : {taken more all written further gone : List ℕ} {handed others out : List ConnectionEvent} {mid new : Link} → Life first taken written handed mid
      → Calls mid more further others new → all ≡ taken ++ more → gone ≡ written ++ further → out ≡ handed ++ others → Life first all gone out new

-- All that is done with a connection: calls, and aborts among them.
pub data Course (first : Link) : List ℕ → List ℕ → List ConnectionEvent → Link → Type 0 where
  lives : {taken written : List ℕ} {handed : List ConnectionEvent} {last : Link} → Life first taken written handed last → Course first taken written handed last
  aborts : {taken more all written further gone : List ℕ} {handed others out : List ConnectionEvent} {mid aborted last : Link} (excess : Excess)
      → Course first taken written handed mid → Aborts mid excess aborted → Life aborted more further others last → all ≡ taken ++ more → gone ≡ written ++ further
      → out ≡ handed ++ others → Course first all gone out last

-- A connection was aborted while its vat was open. Until then this was so of it, and no byte was taken since. What was written since and what wasn't are the
-- bytes that weren't then, and then the frame of that one Abort, which goes out unless memory ran out for it; and nothing happened since.
pub record IsAborted (written : List ℕ) (handed : List ConnectionEvent) (last : Link) (WasSo : List ℕ → List ConnectionEvent → Link → Type 0) : Type 0 where
  pub gone : List ℕ
  pub out : List ConnectionEvent
  pub before : Link
  pub was_so : WasSo gone out before
  pub was_open : before.vat.is_closed ≡ false
  pub excess : Excess
  pub aborted : Link
  pub aborts : Aborts before excess aborted
  pub goes_out : gone ++ aborted.unwritten ≡ written ++ last.unwritten
  pub happens : out ++ aborted.happened ≡ handed ++ last.happened
  pub stays_closed : last.vat.is_closed ≡ true
  pub fault : ConnectionFault
  pub ended : last.fault ≡ Some fault

-- A new vat did this history, and it is a run of it. Of these bytes, which were taken, it received the messages; a rest of them is an open frame. The frames
-- of what it sent are the bytes that were written and then those that weren't, and nothing else; each can be written. What happened by it was handed out,
-- or is still to be, in order, and nothing else.
pub record IsRunOf (mode : Mode) (limits : Bounds) (bootstrap : Option ℕ) (taken written : List ℕ) (handed : List ConnectionEvent) (last : Link) : Type 0 where
  pub history : List Moment
  pub steps : Steps (new_state bootstrap) history last.vat
  pub rest : List ℕ
  pub messages : Messages mode limits taken (messages_of history) rest
  pub is_open : Open mode limits rest
  pub bytes : List ℕ
  pub are_frames : AreFramesOf mode (sent_in history) bytes
  pub goes_out : bytes ≡ written ++ last.unwritten
  pub writable : AllWritable history
  pub happens : happened history ≡ handed ++ last.happened

-- whatever is done with a connection but aborts
abbrev pub LivesRun : Type 0
LivesRun =
    (mode : Mode) (limits : Bounds) (bootstrap : Option ℕ) (taken written : List ℕ) (handed : List ConnectionEvent) (last : Link)
    → Life (new_link mode limits bootstrap) taken written handed last → IsRunOf mode limits bootstrap taken written handed last

-- whatever is done with a connection, up to its abort, if it was aborted
abbrev pub LivesUntilAbort : Type 0
LivesUntilAbort =
    (mode : Mode) (limits : Bounds) (bootstrap : Option ℕ) (taken written : List ℕ) (handed : List ConnectionEvent) (last : Link)
    → Course (new_link mode limits bootstrap) taken written handed last
    → IsRunOf mode limits bootstrap taken written handed last ⊎ IsAborted written handed last (IsRunOf mode limits bootstrap taken)

-- however the bytes come in pieces, and whatever else is done, the messages that the vat received are the same, and so is what came of the open frame
abbrev pub AnyCut : Type 0
AnyCut =
    (mode : Mode) (limits : Bounds) (bootstrap other : Option ℕ) (taken written gone : List ℕ) (handed out : List ConnectionEvent) (last end : Link)
    (one : IsRunOf mode limits bootstrap taken written handed last) (two : IsRunOf mode limits other taken gone out end)
    → (messages_of one.history ≡ messages_of two.history) × (one.rest ≡ two.rest)

-- A new vat behind tail calls did this history, and it is a run of it. Of these bytes, which were taken, messages came; a rest of them is an open frame. The
-- frames of what went out are the bytes that were written and then those that weren't, and nothing else. What happened by the history was handed out, or is
-- still to be, in order, and nothing else. Unless memory ran out, what came, what the vat got and answered, and what went out are what turns of tail calls
-- say: so what is shown of turns holds.
pub record IsRunBehind (mode : Mode) (limits : Bounds) (bootstrap : Option ℕ) (taken written : List ℕ) (handed : List ConnectionEvent) (last : Link) : Type 0 where
  pub history : List Moment
  pub steps : Steps (new_state bootstrap) history last.vat
  pub came : List Message
  pub rest : List ℕ
  pub messages : Messages mode limits taken came rest
  pub is_open : Open mode limits rest
  pub went : List Message
  pub bytes : List ℕ
  pub are_frames : AreFramesOf mode went bytes
  pub goes_out : bytes ≡ written ++ last.unwritten
  pub happens : happened history ≡ handed ++ last.happened
  pub turns : NoneLost history → TellTurns [] came history went (served last)

-- whatever is done with a connection that serves tail calls, but aborts
abbrev pub LivesBehind : Type 0
LivesBehind =
    (mode : Mode) (limits : Bounds) (bootstrap : Option ℕ) (taken written : List ℕ) (handed : List ConnectionEvent) (last : Link)
    → Life (new_link_with_tails mode limits bootstrap) taken written handed last → IsRunBehind mode limits bootstrap taken written handed last

-- the same up to its abort, if it was aborted
abbrev pub LivesBehindUntilAbort : Type 0
LivesBehindUntilAbort =
    (mode : Mode) (limits : Bounds) (bootstrap : Option ℕ) (taken written : List ℕ) (handed : List ConnectionEvent) (last : Link)
    → Course (new_link_with_tails mode limits bootstrap) taken written handed last
    → IsRunBehind mode limits bootstrap taken written handed last ⊎ IsAborted written handed last (IsRunBehind mode limits bootstrap taken)
