-- What is too much of a peer, and the Abort that says so. (rpc.capnp: "Abort", "Exception".)
use Rattle.std.specs.Prelude.{ℕ, List, Option, Some, None, codes}
use Rattle.cp_frame.specs.declared.fault.FrameFault.{FrameFault}
use Rattle.cp_frame.specs.declared.fault.FrameFault.TheVariants as frames
use Rattle.cp_messages.specs.declared.exception.ExceptionKind.{ExceptionKind}
use Rattle.cp_messages.specs.declared.exception.ExceptionKind.TheVariants as kinds
use Rattle.cp_messages.specs.declared.message.Message.{Message}
use Rattle.cp_messages.specs.declared.message.Message.TheVariants as messages
use Rattle.cp_refs.specs.At.{failed}
use Rattle.cp_stream.specs.declared.fault.Refusal.{Refusal}
use Rattle.cp_stream.specs.declared.fault.Refusal.TheVariants as refusals
use Rattle.cp_connection.specs.declared.excess.Excess.{Excess}
use Rattle.cp_connection.specs.declared.excess.Excess.TheVariants as excesses
use Rattle.cp_connection.specs.declared.fault.ConnectionFault.{ConnectionFault}
use Rattle.cp_connection.specs.declared.fault.ConnectionFault.TheVariants as faults

-- the reason that a peer is given
abbrev pub text_of : Excess → List ℕ
text_of excesses.Segments = codes "F1 too many segments"
text_of excesses.Words = codes "F2 frame too large"
text_of excesses.Kept = codes "too much is kept"

-- what is kept may be less later, and a frame is always too large
abbrev pub kind_of : Excess → ExceptionKind
kind_of excesses.Segments = kinds.Failed
kind_of excesses.Words = kinds.Failed
kind_of excesses.Kept = kinds.Overloaded

-- the Abort that says so, without a trace
abbrev pub abort_of : Excess → Message
abort_of excess = messages.Abort (record (failed (text_of excess)) { kind = kind_of excess })

-- what is too much of a frame, if something is
abbrev pub frame_excess : FrameFault → Option Excess
frame_excess frames.TooManySegments = Some excesses.Segments
frame_excess frames.FrameTooLarge = Some excesses.Words
frame_excess other = None

abbrev pub refused_excess : Refusal → Option Excess
refused_excess (refusals.Frame fault) = frame_excess fault
refused_excess other = None

-- what is too much of the bytes for which a connection ended, if something is
abbrev pub excess_of : ConnectionFault → Option Excess
excess_of (faults.Unreadable at refusal) = refused_excess refusal
excess_of other = None
