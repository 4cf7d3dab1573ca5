-- The machine that a vat is. (rpc.capnp, levels 0 and 1.)
use Rattle.std.specs.Prelude.{◌≡◌, not, leb, ◌&&◌, if◌then◌else◌, Bool, true, false, List, [], ◌∷◌, ◌++◌, Result, Ok, Err}
use Rattle.cp_tree.specs.Node.{Node, depth, cost}
use Rattle.cp_messages.specs.Written.{message_written}
use Rattle.cp_messages.specs.declared.message.Message.{Message}
use Rattle.cp_messages.specs.declared.message.Message.TheVariants as messages
use Rattle.cp_refs.specs.At.{failed}
use Rattle.cp_vat_machine.specs.State.{State}
use Rattle.cp_vat_machine.specs.Texts.{text_of}
use Rattle.cp_vat_machine.specs.Then.{Done, fault_if, Unless}
use Rattle.cp_vat_machine.specs.Capacity.{message_fits}
use Rattle.cp_vat_machine.specs.Supported.{is_supported}
use Rattle.cp_vat_machine.specs.Answering.{OnBootstrap, OnCall, OnFinish}
use Rattle.cp_vat_machine.specs.Asking.{OnReturn}
use Rattle.cp_vat_machine.specs.Resolving.{OnRelease, OnResolve, OnDisembargo, OnUnimplemented, OnAbort}
use Rattle.cp_vat_machine.specs.Go.{Leave}
use Rattle.cp_vat_machine.specs.Calling.{OwnDone, DoCall}
use Rattle.cp_vat_machine.specs.Doing.{DoBootstrap, DoAnswer, DoPromise, DoResolve, DoFinish, DoRelease, DoForget, DoIdle}
use Rattle.cp_vat_machine.specs.declared.effect.Effect.{Effect}
use Rattle.cp_vat_machine.specs.declared.effect.Effect.TheVariants as effects
use Rattle.cp_vat_machine.specs.declared.effect.Reason.TheVariants as reasons
use Rattle.cp_vat_machine.specs.declared.event.Event.{Event}
use Rattle.cp_vat_machine.specs.declared.event.Event.TheVariants as events
use Rattle.cp_vat_machine.specs.declared.event.Value.{Value}
use Rattle.cp_vat_machine.specs.declared.event.Value.TheVariants as values
use Rattle.cp_vat_machine.specs.declared.fault.PeerFault.{PeerFault}
use Rattle.cp_vat_machine.specs.declared.fault.PeerFault.TheVariants as faults
use Rattle.cp_vat_machine.specs.declared.fault.VatFault.{VatFault}
use Rattle.cp_vat_machine.specs.declared.fault.VatFault.TheVariants as refusals

-- what a message does, by its member
abbrev pub On : State → Message → Result Done PeerFault → Type 0
On old (messages.Unimplemented t) out = OnUnimplemented old t out
On old (messages.Abort x) out = OnAbort old x out
On old (messages.Call c) out = OnCall old c out
On old (messages.Return r) out = OnReturn old r out
On old (messages.Finish f) out = OnFinish old f out
On old (messages.Resolve r) out = OnResolve old r out
On old (messages.Release r) out = OnRelease old r out
On old (messages.Bootstrap b) out = OnBootstrap old b.question_id out
On old (messages.Disembargo d) out = OnDisembargo old d.context d.target out
On old (messages.Other which body) out = ⊥

-- A message that isn't supported is sent back as its tree, if that can be written.
abbrev pub echo_fits : Node → Bool
echo_fits t = leb (depth t) 64 && leb (cost t) 8388608

abbrev pub echoed : State → Message → Result Done PeerFault
echoed s m =
    if echo_fits (message_written (messages.Unimplemented (message_written m))) then Ok (effects.Send (messages.Unimplemented (message_written m)) ∷ [], s)
    else Err faults.EchoTooLarge

-- A message that isn't supported changes nothing. Of another one the sizes are looked at first.
abbrev pub ReceivesIf : Bool → State → Message → Result Done PeerFault → Type 0
ReceivesIf true old m out = Unless (fault_if (not (message_fits m)) faults.PayloadTooLarge) (On old m) out
ReceivesIf false old m out = out ≡ echoed old m

abbrev pub Receives : State → Message → Result Done PeerFault → Type 0
Receives old m out = ReceivesIf (is_supported m) old m out

-- what a call of the application does
abbrev pub Does : State → Event → Result OwnDone VatFault → Type 0
Does old (events.Receive m) out = ⊥
Does old events.Bootstrap out = DoBootstrap old out
Does old (events.Call cap request) out = DoCall old cap request out
Does old (events.Answer origin outcome) out = DoAnswer old origin outcome out
Does old events.Promise out = DoPromise old out
Does old (events.Resolve p cap) out = DoResolve old p cap out
Does old (events.Finish q) out = DoFinish old q out
Does old (events.Release i) out = DoRelease old i out
Does old (events.Forget p) out = DoForget old p out
Does old events.Idle out = DoIdle old out

-- a fault of the peer is answered by an Abort, and nothing follows
abbrev pub aborts : PeerFault → List Effect
aborts fault = effects.Send (messages.Abort (failed (text_of fault))) ∷ effects.Closed (reasons.Fault fault) ∷ []

-- What follows an event's own effects: waiting calls leave. One that finds a table full closes the vat, as a fault of the peer.
pub data Follows (mid : State) : List Effect → State → Type 0 where
  all_left : {rest : List Effect} {new : State} → Leave mid rest (Ok new) → Follows mid rest new
  found_full : {rest all : List Effect} {new : State} {fault : PeerFault} → Leave mid rest (Err fault) → all ≡ rest ++ aborts fault → new.is_closed ≡ true → Follows mid all new

-- One event, what it was answered with, its effects in order, and the state after it.
pub data Step (old : State) : Event → Result Value VatFault → List Effect → State → Type 0 where
  -- a closed vat refuses each event
  was_closed : (event : Event) → old.is_closed ≡ true → Step old event (Err refusals.Closed) [] old
  -- memory may run out, and closes the vat
  ran_out : {new : State} (event : Event) → old.is_closed ≡ false → new.is_closed ≡ true → Step old event (Err refusals.OutOfMemory) [] new
  -- a call that is refused changes nothing
  refused : {fault : VatFault} (event : Event) → old.is_closed ≡ false → Does old event (Err fault) → Step old event (Err fault) [] old
  -- a call does its own part, and waiting calls leave
  did : {value : Value} {all : List Effect} {new : State} (event : Event) (first rest : List Effect) (mid : State) → old.is_closed ≡ false → Does old event (Ok (value, first, mid))
      → Follows mid rest new → all ≡ first ++ rest → Step old event (Ok value) all new
  -- so does a message
  received : {all : List Effect} {new : State} (m : Message) (first rest : List Effect) (mid : State) → old.is_closed ≡ false → Receives old m (Ok (first, mid))
      → Follows mid rest new → all ≡ first ++ rest → Step old (events.Receive m) (Ok values.Nothing) all new
  -- a message at fault closes the vat
  faulted : {fault : PeerFault} {new : State} (m : Message) → old.is_closed ≡ false → Receives old m (Err fault) → new.is_closed ≡ true
      → Step old (events.Receive m) (Ok values.Nothing) (aborts fault) new
