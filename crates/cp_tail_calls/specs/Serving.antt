-- A vat, behind tail calls or not. (rpc.capnp, levels 0 and 1, with tail calls.)
use Rattle.std.specs.Prelude.{◌≡◌, ◌≢◌, ℕ, Bool, true, false, List, [], ◌∷◌, ◌++◌, Option, Some, None, Result, Ok, Err}
use Rattle.cp_tables.specs.declared.exchange.Stage.{Stage}
use Rattle.cp_messages.specs.declared.call.Call.{Call}
use Rattle.cp_messages.specs.declared.message.Message.{Message}
use Rattle.cp_vat_machine.specs.Run.{Moment, Steps}
use Rattle.cp_vat_machine.specs.State.{State}
use Rattle.cp_vat_machine.specs.Step.{Step}
use Rattle.cp_vat_machine.specs.declared.effect.Effect.{Effect}
use Rattle.cp_vat_machine.specs.declared.effect.Effect.TheVariants as effects
use Rattle.cp_vat_machine.specs.declared.event.Event.{Event}
use Rattle.cp_vat_machine.specs.declared.event.Event.TheVariants as events
use Rattle.cp_vat_machine.specs.declared.event.Value.{Value}
use Rattle.cp_vat_machine.specs.declared.event.Value.TheVariants as values
use Rattle.cp_vat_machine.specs.declared.fault.VatFault.{VatFault}
use Rattle.cp_vat_machine.specs.declared.fault.VatFault.TheVariants as refusals
use Rattle.cp_tail_calls.specs.declared.forwarding.ForwardedMessage.{ForwardedMessage}
use Rattle.cp_tail_calls.specs.declared.forwarding.ForwardedMessage.TheVariants as owed
use Rattle.cp_tail_calls.specs.declared.forwarding.Trigger.{Trigger}
use Rattle.cp_tail_calls.specs.declared.forwarding.Trigger.TheVariants as triggers
use Rattle.cp_tail_calls.specs.Receiving.{received}
use Rattle.cp_tail_calls.specs.Sending.{next_of, sent}
use Rattle.cp_tail_calls.specs.Tails.{Tails}

-- a vat, and the tail calls before it, where they are served
pub record Served : Type 0 where
  pub vat : State
  pub tails : Option Tails

abbrev pub moment : Event → Result Value VatFault → List Effect → Moment
moment event result by = record { event = event; result = result; effects = by }

-- whether the vat closes by these
abbrev pub closes : List Effect → Bool
closes [] = false
closes (effects.Closed reason ∷ more) = true
closes (other ∷ more) = closes more

-- a message is sent before other effects, if one is
abbrev pub sends_first : Option Message → List Effect × Tails → List Effect × Tails
sends_first None rest = rest
sends_first (Some m) rest = (effects.Send m ∷ rest.0, rest.1)

-- What comes of the effects of one event of the vat, up to its closing: of each message that it sends what is sent in its place, and anything else as it is.
abbrev pub passed_on : Trigger → Tails → List Effect → List Effect × Tails
passed_on trigger t [] = ([], t)
passed_on trigger t (effects.Send m ∷ more) = sends_first (sent t trigger m).0 (passed_on trigger (sent t trigger m).1 more)
passed_on trigger t (effects.Closed reason ∷ more) = (effects.Closed reason ∷ [], t)
passed_on trigger t (other ∷ more) = (other ∷ (passed_on trigger t more).0, (passed_on trigger t more).1)

abbrev pub with_tails : List Effect × Tails → List Effect × Option Tails
with_tails passed = (passed.0, Some passed.1)

-- without tail calls they are as they are
abbrev pub comes_of : Trigger → Option Tails → List Effect → List Effect × Option Tails
comes_of trigger None by = (by, None)
comes_of trigger (Some t) by = with_tails (passed_on trigger t by)

abbrev pub is_message : Event → Bool
is_message (events.Receive m) = true
is_message other = false

abbrev pub trigger_of : Event → Trigger
trigger_of (events.Receive m) = triggers.Message
trigger_of other = triggers.Application

abbrev pub owed_by : Option Tails → List ForwardedMessage
owed_by None = []
owed_by (Some t) = t.owed

module _ (acts_on : Call → Bool) (stage_of : State → ℕ → Option Stage) where
  -- what the vat gets in the place of a message
  abbrev pub gets : State → Option Tails → Message → Option Message × Option Tails
  gets vat None m = (Some m, None)
  gets vat (Some t) m = ((received acts_on (stage_of vat) t m).0, Some (received acts_on (stage_of vat) t m).1)

  -- What is owed is passed on, one after another: to the peer, or to the vat, as an event of its own. Once the vat closed, nothing is.
  pub data Settles : Bool → Served → List Moment → List Effect → Served → Type 0 where
    has_closed : {s : Served} → Settles true s [] [] s
    nothing_owed : {s : Served} → owed_by s.tails ≡ [] → Settles false s [] [] s
    to_peer : {old new : Served} {history : List Moment} {out all : List Effect} (m : Message) (t mid : Tails) → old.tails ≡ Some t
        → next_of (stage_of old.vat) t t.owed ≡ (Some (owed.ToPeer m), mid) → Settles false (record old { tails = Some mid }) history out new
        → all ≡ effects.Send m ∷ out → Settles false old history all new
    to_vat : {old new : Served} {history whole : List Moment} {out all : List Effect} (m : Message) (t mid : Tails) (by : List Effect) (vat : State)
        → old.tails ≡ Some t → next_of (stage_of old.vat) t t.owed ≡ (Some (owed.ToVat m), mid) → Step old.vat (events.Receive m) (Ok values.Nothing) by vat
        → Settles (closes by) (record { vat = vat; tails = (comes_of triggers.Message (Some mid) by).1 }) history out new
        → whole ≡ moment (events.Receive m) (Ok values.Nothing) by ∷ history → all ≡ (comes_of triggers.Message (Some mid) by).0 ++ out
        → Settles false old whole all new

  -- The vat did one event, and what is owed then was passed on.
  pub record Goes (old : Served) (event : Event) (value : Value) (history : List Moment) (out : List Effect) (new : Served) : Type 0 where
    pub by : List Effect
    pub vat : State
    pub step : Step old.vat event (Ok value) by vat
    pub later : List Moment
    pub rest : List Effect
    pub settles : Settles (closes by) (record { vat = vat; tails = (comes_of (trigger_of event) old.tails by).1 }) later rest new
    pub whole : history ≡ moment event (Ok value) by ∷ later
    pub all : out ≡ (comes_of (trigger_of event) old.tails by).0 ++ rest

  -- One event, and what it was answered with: what the vat itself did, what comes of that, and the state after it.
  pub data Serves (old : Served) : Event → Result Value VatFault → List Moment → List Effect → Served → Type 0 where
    -- the application calls
    calls : {new : Served} {value : Value} {history : List Moment} {out : List Effect} (event : Event) → is_message event ≡ false
        → Goes old event value history out new → Serves old event (Ok value) history out new
    -- a message comes, and the vat gets this in its place
    takes : {new : Served} {history : List Moment} {out : List Effect} (m on : Message) (mid : Option Tails) → gets old.vat old.tails m ≡ (Some on, mid)
        → Goes (record old { tails = mid }) (events.Receive on) values.Nothing history out new → Serves old (events.Receive m) (Ok values.Nothing) history out new
    -- a message comes that the vat doesn't get
    keeps : {new : Served} {history : List Moment} {out : List Effect} (m : Message) (mid : Option Tails) → old.vat.is_closed ≡ false
        → gets old.vat old.tails m ≡ (None, mid) → Settles false (record old { tails = mid }) history out new
        → Serves old (events.Receive m) (Ok values.Nothing) history out new
    -- The vat refuses it, or memory runs out for what follows. Only that changes anything.
    refuses : {new : Served} {fault : VatFault} (event : Event) → Step old.vat event (Err fault) [] new.vat → (fault ≢ refusals.OutOfMemory → new ≡ old)
        → Serves old event (Err fault) (moment event (Err fault) [] ∷ []) [] new

-- What the vat does is a run of it, as ever.
abbrev pub RunsBehind : Type 0
RunsBehind =
    (acts_on : Call → Bool) (stage_of : State → ℕ → Option Stage) (old new : Served) (event : Event) (result : Result Value VatFault) (history : List Moment) (out : List Effect)
    → Serves acts_on stage_of old event result history out new → Steps old.vat history new.vat

-- Where tail calls aren't served, the vat does the one event, and what comes of it is what the vat does.
pub record IsStep (old : Served) (event : Event) (result : Result Value VatFault) (history : List Moment) (out : List Effect) (new : Served) : Type 0 where
  pub step : Step old.vat event result out new.vat
  pub one : history ≡ moment event result out ∷ []

abbrev pub ServesAlone : Type 0
ServesAlone =
    (acts_on : Call → Bool) (stage_of : State → ℕ → Option Stage) (old new : Served) (event : Event) (result : Result Value VatFault) (history : List Moment) (out : List Effect)
    → old.tails ≡ None → Serves acts_on stage_of old event result history out new → IsStep old event result history out new
