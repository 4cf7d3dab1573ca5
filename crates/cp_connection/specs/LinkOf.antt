-- A connection by its parts. No public clause names these.
use Rattle.std.specs.Prelude.{◌≡◌, ℕ, ◌+◌, ◌-◌, ◌^◌, min, Bool, true, false, List, Option, Some, None}
use Rattle.cp_frame.specs.Reader as readers
use Rattle.cp_frame.specs.declared.fault.FrameFault.{FrameFault}
use Rattle.cp_frame.specs.declared.fault.FrameFault.TheVariants as frames
use Rattle.cp_stream.specs.Stream.{HoldsNone}
use Rattle.cp_stream.specs.declared.fault.Refusal.{Refusal}
use Rattle.cp_stream.specs.declared.fault.Refusal.TheVariants as refusals
use Rattle.cp_vat_machine.specs.State.{State, new_state}
use Rattle.cp_vat_machine.specs.declared.fault.VatFault.{VatFault}
use Rattle.cp_vat_machine.specs.declared.fault.VatFault.TheVariants as vat_refusals
use Rattle.cp_tail_calls.specs.Tails.{Tails}
use Rattle.cp_connection.specs.declared.fault.ConnectionFault.{ConnectionFault}
use Rattle.cp_connection.specs.declared.fault.ConnectionFault.TheVariants as faults
use Rattle.cp_connection.specs.Doing.{first_fault}
use Rattle.cp_connection.specs.Link.{Link, HasCome}
use Rattle.cp_connection.specs.Owing.{OwesSendable}
use Rattle.cp_connection.specs.declared.parts.Parts.{Parts}

-- the vat, which counts as closed once its effects were lost
abbrev pub closed_if : Bool → State → State
closed_if true s = record s { is_closed = true }
closed_if false s = s

-- the tail calls, of which none are served once effects of the vat were lost
abbrev pub tails_if : Bool → Option Tails → Option Tails
tails_if true tails = None
tails_if false tails = tails

abbrev pub link_of : Parts → Link
link_of p = record {
  mode = p.agenda.mode;
  limits = p.limits;
  reading = p.frames.state;
  vat = closed_if p.is_lost p.vat;
  tails = tails_if p.is_lost p.tails;
  unwritten = p.agenda.outgoing;
  happened = p.agenda.happened.items;
  stats = record { bytes = p.bytes; messages = p.messages; sent = p.agenda.sent };
  fault = p.fault;
}

-- Frames are read on, in the form and within the limits of the connection, of which these bytes came of the open one; no effects were lost; and what tail
-- calls owe the peer can be written.
pub record GoesOn (p : Parts) : Type 0 where
  pub same_mode : p.frames.mode ≡ p.agenda.mode
  pub same_limits : p.frames.limits ≡ p.limits
  pub rest : List ℕ
  pub came : HasCome (link_of p) rest
  pub kept : p.is_lost ≡ false
  pub owes : OwesSendable p.tails

-- a connection that didn't end goes on
abbrev pub KeepsUp : Parts → Type 0
KeepsUp p = p.fault ≡ None → GoesOn p

-- the fault of a frame, after this many bytes
abbrev pub unread_at : ℕ → FrameFault → ConnectionFault
unread_at at frames.OutOfMemory = faults.OutOfMemory
unread_at at fault = faults.Unreadable at (refusals.Frame fault)

-- why a connection ends by a refusal of its vat, or ended before
abbrev pub refused_by : VatFault → Option ConnectionFault → Option ConnectionFault
refused_by vat_refusals.OutOfMemory before = Some faults.OutOfMemory
refused_by fault before = before

-- The connection ends for this fault, unless it ended before. What the vat, tail calls and the open frame keep goes.
pub record LetsGo (old : Parts) (fault : ConnectionFault) (new : Parts) : Type 0 where
  pub frames : new.frames ≡ readers.new_reader old.agenda.mode old.limits
  pub same : new ≡ record old { frames = new.frames; vat = new_state None; tails = None; is_lost = true; fault = Some (first_fault old.fault fault) }

-- The frame with these segments and this many bytes ends in the piece, and this follows it. Nothing changed but the reader of frames.
pub record GivesFrame (old : Parts) (piece : List ℕ) (taken : ℕ) (segments : List (List ℕ)) (back : List ℕ) (new : Parts) : Type 0 where
  pub was_open : old.fault ≡ None
  pub gives : readers.GivesNext old.frames piece taken segments new.frames back
  pub same : new ≡ record old { frames = new.frames }

-- a message of this many bytes is counted
pub record CountsOne (old : Parts) (taken : ℕ) (new : Parts) : Type 0 where
  pub bytes : new.bytes ≡ min (old.bytes + taken) (2 ^ 64 - 1)
  pub messages : new.messages ≡ min (old.messages + 1) (2 ^ 64 - 1)
  pub same : new ≡ record old { bytes = new.bytes; messages = new.messages }

-- A frame holds no message, for which the connection ends.
pub record RefusesFrame (old : Parts) (segments : List (List ℕ)) (fault : ConnectionFault) (new : Parts) : Type 0 where
  pub refusal : Refusal
  pub none : HoldsNone old.limits segments refusal
  pub told : fault ≡ faults.Unreadable old.bytes refusal
  pub same : new ≡ record old { fault = Some fault }
