-- What the parts of a connection do for an event of its vat. No public clause names these.
use Rattle.std.specs.Prelude.{◌≡◌, ◌⊎◌, if◌then◌else◌, Bool, true, false, List, [], ◌∷◌, ◌++◌, Option, Some, None, Result, Ok, Err}
use Rattle.cp_messages.specs.declared.message.Message.{Message}
use Rattle.cp_vat_machine.specs.Asked.{stage_of}
use Rattle.cp_vat_machine.specs.Run.{Moment}
use Rattle.cp_vat_machine.specs.State.{State}
use Rattle.cp_vat_machine.specs.Step.{Step}
use Rattle.cp_vat_machine.specs.Supported.{is_supported_to_caller}
use Rattle.cp_vat_machine.specs.declared.acted.Acted.{Acted}
use Rattle.cp_vat_machine.specs.declared.effect.Effect.{Effect}
use Rattle.cp_vat_machine.specs.declared.effect.Effect.TheVariants as effects
use Rattle.cp_vat_machine.specs.declared.event.Event.{Event}
use Rattle.cp_vat_machine.specs.declared.event.Event.TheVariants as events
use Rattle.cp_vat_machine.specs.declared.event.Value.{Value}
use Rattle.cp_vat_machine.specs.declared.event.Value.TheVariants as values
use Rattle.cp_vat_machine.specs.declared.fault.VatFault.{VatFault}
use Rattle.cp_vat.specs.Stepping as vat
use Rattle.cp_tail_calls.specs.Serving.{Served, Settles, closes, comes_of, gets, is_message}
use Rattle.cp_tail_calls.specs.declared.forwarding.ForwardedMessage.{ForwardedMessage}
use Rattle.cp_tail_calls.specs.declared.forwarding.ForwardedMessage.TheVariants as owed
use Rattle.cp_tail_calls.specs.declared.forwarding.Trigger.{Trigger}
use Rattle.cp_tail_calls.specs.declared.forwarding.Trigger.TheVariants as triggers
use Rattle.cp_connection.specs.declared.fault.ConnectionFault.{ConnectionFault}
use Rattle.cp_connection.specs.declared.fault.ConnectionFault.TheVariants as faults
use Rattle.cp_connection.specs.declared.parts.Parts.{Parts}
use Rattle.cp_connection.specs.Doing.{Acts, answered}
use Rattle.cp_connection.specs.LinkOf.{link_of, refused_by}
use Rattle.cp_connection.specs.Noting.{Notes, Grows, Stays}
use Rattle.cp_connection.specs.Owing.{OwesSendable}
use Rattle.cp_connection.specs.Refusing.{refusal_of}

-- the vat, and the tail calls before it
abbrev pub behind : Parts → Served
behind p = record { vat = p.vat; tails = p.tails }

-- why a connection that was open ends by these effects
abbrev pub closed_by : List Effect → Option ConnectionFault
closed_by by = if closes by then Some faults.Closed else None

-- Something may have been noted, and the vat and the tail calls may have gone on.
pub record MayNote (old new : Parts) : Type 0 where
  pub grown : Grows old.agenda new.agenda
  pub same : new ≡ record old { agenda = new.agenda; vat = new.vat; tails = new.tails; fault = new.fault }

-- What comes of the effects of one event of the vat is noted.
pub record NotesEvent (old : Parts) (trigger : Trigger) (by : List Effect) (new : Parts) : Type 0 where
  pub noted : Notes old.agenda (comes_of trigger old.tails by).0 new.agenda
  pub tails : new.tails ≡ (comes_of trigger old.tails by).1
  pub ended : new.fault ≡ closed_by by
  pub same : new ≡ record old { agenda = new.agenda; tails = new.tails; fault = new.fault }

-- the vat got a message that was owed to it
abbrev pub GivesVat : Parts → Message → Parts → Type 0
GivesVat old m new =
    (by : List Effect) × Step old.vat (events.Receive m) (Ok values.Nothing) by new.vat × NotesEvent (record old { vat = new.vat }) triggers.Message by new

-- What was owed first was passed on.
abbrev pub Passes : Parts → ForwardedMessage → Parts → Type 0
Passes old (owed.ToPeer m) new = Notes old.agenda (effects.Send m ∷ []) new.agenda × (new ≡ record old { agenda = new.agenda })
Passes old (owed.ToVat m) new = GivesVat old m new

-- Whatever settles the rest then settles all, with this history and these effects before.
abbrev pub Leads : Served → List Moment → List Effect → Served → Type 0
Leads old history out mid =
    (later : List Moment) (rest : List Effect) (new : Served) → Settles is_supported_to_caller stage_of (closes out) mid later rest new
    → Settles is_supported_to_caller stage_of false old (history ++ later) (out ++ rest) new

-- Of what an open connection owed a part was passed on.
pub record PassesOn (old new : Parts) : Type 0 where
  pub history : List Moment
  pub effects : List Effect
  pub leads : Leads (behind old) history effects (behind new)
  pub noted : Notes old.agenda effects new.agenda
  pub ended : new.fault ≡ closed_by effects
  pub owes : OwesSendable new.tails
  pub same : new ≡ record old { agenda = new.agenda; vat = new.vat; tails = new.tails; fault = new.fault }

-- what was owed first was passed on, or nothing was owed
abbrev pub PassesIf : Bool → Parts → Parts → Type 0
PassesIf true old new = (old.fault ≡ None) × PassesOn old new
PassesIf false old new = (old.fault ≡ None → Settles is_supported_to_caller stage_of false (behind old) [] [] (behind old)) × (new ≡ old)

-- All that an open connection owed was passed on.
pub record Settled (old new : Parts) : Type 0 where
  pub history : List Moment
  pub effects : List Effect
  pub settles : Settles is_supported_to_caller stage_of false (behind old) history effects (behind new)
  pub noted : Notes old.agenda effects new.agenda
  pub ended : new.fault ≡ closed_by effects
  pub owes : OwesSendable new.tails
  pub same : new ≡ record old { agenda = new.agenda; vat = new.vat; tails = new.tails; fault = new.fault }

-- What comes of the effects of one event of the vat is noted, and all that is owed then was passed on.
pub record Follows (old : Parts) (trigger : Trigger) (by : List Effect) (new : Parts) : Type 0 where
  pub later : List Moment
  pub rest : List Effect
  pub settles : Settles is_supported_to_caller stage_of (closes by) (record { vat = old.vat; tails = (comes_of trigger old.tails by).1 }) later rest (behind new)
  pub noted : Notes old.agenda ((comes_of trigger old.tails by).0 ++ rest) new.agenda
  pub ended : new.fault ≡ closed_by ((comes_of trigger old.tails by).0 ++ rest)
  pub owes : OwesSendable new.tails
  pub same : new ≡ record old { agenda = new.agenda; vat = new.vat; tails = new.tails; fault = new.fault }

-- Memory ran out for what follows: nothing was noted, and the vat counts as closed.
pub record Loses (old new : Parts) : Type 0 where
  pub stays : Stays old.agenda new.agenda
  pub same : new ≡ record old { agenda = new.agenda; vat = new.vat; tails = new.tails; is_lost = true; fault = Some faults.OutOfMemory }

-- What the vat gave is noted, with all that follows, and its value given; or memory ran out for that, and its effects are lost; or it refused, which ends
-- the connection where memory ran out.
abbrev pub NotesAll : {A : Type 0} → Parts → Trigger → Result (Acted A) VatFault → Result A ConnectionFault → Parts → Type 0
NotesAll old trigger (Ok acted) (Ok value) new = (value ≡ acted.value) × Follows old trigger acted.effects new
NotesAll old trigger (Ok acted) (Err fault) new = (fault ≡ faults.OutOfMemory) × Loses old new
NotesAll old trigger (Err refusal) (Ok value) new = ⊥
NotesAll old trigger (Err refusal) (Err fault) new = (fault ≡ refusal_of refusal) × (new ≡ record old { fault = refused_by refusal old.fault })

-- Whatever call of the application the vat did to give this, the connection did it, from the state that the vat was in before.
abbrev pub Concludes : {A : Type 0} → Parts → Trigger → Result (Acted A) VatFault → Result A ConnectionFault → Parts → Type 0
Concludes {A} old trigger acted result new =
    (before : State) (event : Event) (value : A → Value) → trigger ≡ triggers.Application → is_message event ≡ false
    → Step before event (vat.answered value acted) (vat.effects_of acted) old.vat → Acts (record (link_of old) { vat = before }) event (answered value result) (link_of new)

-- What the vat gets in the place of a message, if anything: the message as it is, where tail calls aren't served or it refuses all; else what tail calls
-- pass on.
abbrev pub GetsFor : Parts → Message → Option Message → Parts → Type 0
GetsFor old m on new =
    ((on ≡ Some m) × (new ≡ old) × ((old.tails ≡ None) ⊎ (old.vat.is_closed ≡ true)))
    ⊎ ((old.vat.is_closed ≡ false) × (gets is_supported_to_caller stage_of old.vat old.tails m ≡ (on, new.tails)) × (new ≡ record old { tails = new.tails })
    × OwesSendable new.tails)

-- what follows of a message that the vat doesn't get
abbrev pub GoesOnIf : Parts → Result (Unit {0}) ConnectionFault → Parts → Type 0
GoesOnIf old (Ok value) new = Settled old new
GoesOnIf old (Err fault) new = (fault ≡ faults.OutOfMemory) × Loses old new
