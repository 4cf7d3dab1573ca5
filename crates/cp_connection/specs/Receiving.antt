-- What bytes of the peer do to a connection.
use Rattle.std.specs.Prelude.{◌≡◌, ◌≢◌, ◌⊎◌, ℕ, ◌+◌, ◌-◌, ◌^◌, min, List, [], ◌∷◌, ◌++◌, Option, Some, None, Ok, length, drop}
use Rattle.cp_frame.specs.declared.fault.FrameFault.TheVariants as frames
use Rattle.cp_messages.specs.declared.message.Message.{Message}
use Rattle.cp_stream.specs.declared.fault.Refusal.TheVariants as refusals
use Rattle.cp_stream.specs.Stream.{IsFrameOf, HasFault}
use Rattle.cp_vat_machine.specs.declared.event.Event.TheVariants as events
use Rattle.cp_vat_machine.specs.declared.event.Value.TheVariants as values
use Rattle.cp_connection.specs.declared.fault.ConnectionFault.{ConnectionFault}
use Rattle.cp_connection.specs.declared.fault.ConnectionFault.TheVariants as faults
use Rattle.cp_connection.specs.declared.event.ConnectionStats.{ConnectionStats}
use Rattle.cp_connection.specs.declared.event.ConnectionEvent.{ConnectionEvent}
use Rattle.cp_connection.specs.Link.{Link, HasCome}
use Rattle.cp_connection.specs.Doing.{HadEnded, Refuses, Does}

-- these counts and one message more, whose frame has this many bytes
abbrev pub counted : ConnectionStats → ℕ → ConnectionStats
counted stats n = record stats { bytes = min (stats.bytes + n) (2 ^ 64 - 1); messages = min (stats.messages + 1) (2 ^ 64 - 1) }

-- A front of the piece ends the frame of a message. The message was read and is counted, and nothing of another frame came.
pub record Reads (old : Link) (front : List ℕ) (message : Message) (mid : Link) : Type 0 where
  pub was_open : old.fault ≡ None
  pub is_frame : (rest : List ℕ) → HasCome old rest → IsFrameOf old.mode old.limits (rest ++ front) message
  pub counts : (rest : List ℕ) → HasCome old rest → mid.stats ≡ counted old.stats (length (rest ++ front))
  pub fresh : HasCome mid []
  pub same : mid ≡ record old { reading = mid.reading; stats = mid.stats }

-- No frame ends in the piece.
pub record ReadsOn (old : Link) (piece : List ℕ) (new : Link) : Type 0 where
  pub was_open : old.fault ≡ None
  pub came : (rest : List ℕ) → HasCome old rest → HasCome new (rest ++ piece)
  pub same : new ≡ record old { reading = new.reading }

-- The first bytes of a piece were taken: they end the frame of a message, which the vat took in; or they are the whole piece, and no frame ends in it.
abbrev pub Receives : Link → List ℕ → ℕ → Link → Type 0
Receives old piece count new =
    (count ≡ length piece) × ReadsOn old piece new
    ⊎ ((front : List ℕ) × (back : List ℕ) × (message : Message) × (mid : Link) × (piece ≡ front ++ back) × (count ≡ length front)
    × Reads old front message mid × Does mid (events.Receive message) (Ok values.Nothing) new)

-- The connection ends for the fault, and nothing else changes but what came of the open frame.
pub record Fails (old : Link) (fault : ConnectionFault) (new : Link) : Type 0 where
  pub was_open : old.fault ≡ None
  pub same : new ≡ record old { reading = new.reading; fault = Some fault }

-- why a piece isn't read: its bytes, after those that came, have a fault, which names the bytes before them; or memory ran out for a frame
abbrev pub IsUnread : Link → List ℕ → ConnectionFault → Type 0
IsUnread old piece (faults.Unreadable at refusal) =
    (at ≡ old.stats.bytes) × ((rest : List ℕ) → HasCome old rest → HasFault old.mode old.limits (rest ++ piece) refusal)
IsUnread old piece faults.OutOfMemory = Unit {0}
IsUnread old piece fault = ⊥

-- Why nothing is received: the connection had ended; or the piece can't be read; or the vat refuses the message whose frame ends with the bytes that were
-- taken.
abbrev pub IsUnreceived : Link → List ℕ → List ℕ → ConnectionFault → Link → Type 0
IsUnreceived old piece taken fault new =
    (taken ≡ []) × HadEnded old fault new
    ⊎ ((taken ≡ []) × IsUnread old piece fault × Fails old fault new
    ⊎ ((back : List ℕ) × (message : Message) × (mid : Link) × (piece ≡ taken ++ back) × Reads old taken message mid
    × Refuses mid (events.Receive message) fault new))

-- The peer's bytes ended after a frame, and nothing changes.
pub record EndsWell (old new : Link) : Type 0 where
  pub was_open : old.fault ≡ None
  pub same : new ≡ old
  pub nothing : (rest : List ℕ) → HasCome old rest → rest ≡ []

-- why the end is at fault: the connection had ended; or the bytes end inside a frame, after those of the messages before it
abbrev pub EndsBadly : Link → ConnectionFault → Link → Type 0
EndsBadly old fault new =
    HadEnded old fault new
    ⊎ ((fault ≡ faults.Unreadable old.stats.bytes (refusals.Frame frames.Truncated)) × Fails old fault new × ((rest : List ℕ) → HasCome old rest → rest ≢ []))

-- the first of the bytes that weren't written were
abbrev pub Wrote : Link → ℕ → Link → Type 0
Wrote old count new = new ≡ record old { unwritten = drop count old.unwritten }

-- what happened first and wasn't taken is handed out, if anything is there
abbrev pub HandsOut : Link → Option ConnectionEvent → Link → Type 0
HandsOut old (Some first) new = (old.happened ≡ first ∷ new.happened) × (new ≡ record old { happened = new.happened })
HandsOut old None new = (old.happened ≡ []) × (new ≡ old)
