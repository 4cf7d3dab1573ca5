-- A run, cut into turns. (rpc.capnp: "Call".)
use Rattle.std.specs.Prelude.{ℕ, List, [], ◌∷◌, Result}
use Rattle.cp_refs.specs.declared.call.WaitingCall.{WaitingCall}
use Rattle.cp_vat_machine.specs.State.{State, new_state, none_over, with_over}
use Rattle.cp_vat_machine.specs.Go.{Leave, stays, leaves, finds_table_full}
use Rattle.cp_vat_machine.specs.Step.{Follows, all_left, found_full, Step, did, received}
use Rattle.cp_vat_machine.specs.Run.{Moment, Steps, Run}
use Rattle.cp_vat_machine.specs.declared.effect.Effect.{Effect}
use Rattle.cp_vat_machine.specs.declared.event.Event.{Event}
use Rattle.cp_vat_machine.specs.declared.event.Event.TheVariants as events
use Rattle.cp_vat_machine.specs.declared.event.Value.{Value}
use Rattle.cp_vat_machine.specs.declared.event.Value.TheVariants as values
use Rattle.cp_vat_machine.specs.declared.fault.PeerFault.{PeerFault}
use Rattle.cp_vat_machine.specs.declared.fault.VatFault.{VatFault}
use Rattle.std.specs.Prelude.{Option}

-- What is done in a turn: an event's own part, which had this answer; a waiting call goes; or none goes any more, and the vat rests until the
-- next event.
pub data Cause : Type 0 where
  own_part : Event → Value → Cause
  goes : WaitingCall → Cause
  rests : Cause

-- a turn, with the states before and after it and its effects in order
pub record Turn : Type 0 where
  pub cause : Cause
  pub before : State
  pub effects : List Effect
  pub after : State

-- The turns of a run are in a list, the latest first; each of these puts its own before those that it is given. First those of waiting calls.
abbrev pub leaving_turns : {old : State} {effects : List Effect} {out : Result State PeerFault} → Leave old effects out → List Turn → List Turn
leaving_turns {old} (stays none) past = record { cause = rests; before = old; effects = []; after = with_over old none_over } ∷ past
leaving_turns {old} (leaves {mid = mid} {first = first} call cap next went rest is) past =
    leaving_turns rest (record { cause = goes call; before = old; effects = first; after = mid } ∷ past)
leaving_turns (finds_table_full call cap next found) past = past

abbrev pub following_turns : {mid new : State} {effects : List Effect} → Follows mid effects new → List Turn → List Turn
following_turns (all_left leaving) past = leaving_turns leaving past
following_turns (found_full leaving is closes) past = leaving_turns leaving past

-- an event that was refused, or that was a fault of the peer, has no turn
abbrev pub step_turns : {old new : State} {event : Event} {result : Result Value VatFault} {effects : List Effect} → Step old event result effects new → List Turn → List Turn
step_turns {old} (did {value = value} event first rest mid is_open done follows is) past =
    following_turns follows (record { cause = own_part event value; before = old; effects = first; after = mid } ∷ past)
step_turns {old} (received m first rest mid is_open done follows is) past =
    following_turns follows (record { cause = own_part (events.Receive m) values.Nothing; before = old; effects = first; after = mid } ∷ past)
step_turns other past = past

abbrev pub turns_after : (old new : State) (history : List Moment) → Steps old history new → List Turn → List Turn
turns_after old new [] steps past = past
turns_after old new (moment ∷ more) (mid, step, steps) past = turns_after mid new more steps (step_turns step past)

-- the turns of a run, the latest first
abbrev pub trace_of : (bootstrap : Option ℕ) (history : List Moment) → Run bootstrap history → List Turn
trace_of bootstrap history run = turns_after (new_state bootstrap) run.0 history run.1 []
