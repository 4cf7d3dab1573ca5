-- What a vat does behind tail calls: what happens by it, and that it is one step where none are served.
use Rattle.std.proofs.Common.{◌≡◌, ◌≢◌, Bool, true, false, List, [], ◌∷◌, ◌++◌, Option, Some, None, Result, Ok, Err, refl, sym, ap, ◌∙◌, subst, append-nil, is_none, true≢false}
use Rattle.cp_messages.specs.declared.message.Message.{Message}
use Rattle.cp_vat_machine.specs.Asked.{stage_of}
use Rattle.cp_vat_machine.specs.Run.{Moment}
use Rattle.cp_vat_machine.specs.Step.{Step}
use Rattle.cp_vat_machine.specs.Supported.{is_supported_to_caller}
use Rattle.cp_vat_machine.specs.declared.effect.Effect.{Effect}
use Rattle.cp_vat_machine.specs.declared.effect.Effect.TheVariants as effects
use Rattle.cp_vat_machine.specs.declared.event.Event.{Event}
use Rattle.cp_vat_machine.specs.declared.event.Value.{Value}
use Rattle.cp_vat_machine.specs.declared.fault.VatFault.{VatFault}
use Rattle.cp_vat_machine.specs.declared.fault.VatFault.TheVariants as refusals
use Rattle.cp_tail_calls.specs.Sending.{sent}
use Rattle.cp_tail_calls.specs.Serving.{Served, Settles, has_closed, nothing_owed, to_peer, to_vat, Goes, Serves, calls, takes, keeps, refuses, IsStep, closes, comes_of, gets, passed_on, sends_first, trigger_of}
use Rattle.cp_tail_calls.specs.Tails.{Tails}
use Rattle.cp_tail_calls.specs.declared.forwarding.Trigger.{Trigger}
use Rattle.cp_tail_calls.specs.declared.forwarding.Trigger.TheVariants as triggers
use Rattle.cp_vat_machine.proofs.Basics.{ok_out}
use Rattle.cp_tail_calls.proofs.VatRuns.{serves_alone}
use Rattle.cp_connection.specs.declared.fault.ConnectionFault.{ConnectionFault}
use Rattle.cp_connection.specs.declared.event.ConnectionEvent.{ConnectionEvent}
use Rattle.cp_connection.specs.declared.event.ConnectionEvent.TheVariants as happenings
use Rattle.cp_connection.specs.Doing.{Does, ended_by, served}
use Rattle.cp_connection.specs.Effects.{happening_by, happened}
use Rattle.cp_connection.specs.Link.{Link}
use Rattle.cp_connection.proofs.Noting.{closes_comes, happening_both}

-- ---- what happens

comes_happen : (trigger : Trigger) (t : Option Tails) (by : List Effect) → happening_by (comes_of trigger t by).0 ≡ happening_by by
comes_happen trigger None by = refl
comes_happen trigger (Some t) by = passes t by
  where
    first : (on : Option Message) (rest : List Effect × Tails) → happening_by (sends_first on rest).0 ≡ happening_by rest.0
    first None rest = refl
    first (Some m) rest = refl

    passes : (t : Tails) (by : List Effect) → happening_by (passed_on trigger t by).0 ≡ happening_by by
    passes t [] = refl
    passes t (effects.Send m ∷ more) = first (sent t trigger m).0 (passed_on trigger (sent t trigger m).1 more) ∙ passes (sent t trigger m).1 more
    passes t (effects.Deliver object origin ticket call ∷ more) = ap (λ (h : List ConnectionEvent). happenings.Delivered object origin ticket call ∷ h) (passes t more)
    passes t (effects.Settled question outcome ∷ more) = ap (λ (h : List ConnectionEvent). happenings.Settled question outcome ∷ h) (passes t more)
    passes t (effects.Closed reason ∷ more) = refl

-- once the vat closed, nothing is passed on
settles_shut : {old new : Served} {history : List Moment} {out : List Effect} → Settles is_supported_to_caller stage_of true old history out new → (history ≡ []) × (out ≡ [])
settles_shut has_closed = (refl, refl)

-- what happens by an event of the vat, and then by what follows
happens_then : (trigger : Trigger) (t : Option Tails) (by : List Effect) (history : List Moment) (out : List Effect) {old new : Served}
    → Settles is_supported_to_caller stage_of (closes by) old history out new → happened history ≡ happening_by out
    → happening_by by ++ happened history ≡ happening_by ((comes_of trigger t by).0 ++ out)
happens_then trigger t by history out {old = old} {new = new} settles h = split (closes by) refl
  where
    split : (b : Bool) → closes by ≡ b → happening_by by ++ happened history ≡ happening_by ((comes_of trigger t by).0 ++ out)
    split true shut =
        let none = settles_shut (subst (λ (b : Bool). Settles is_supported_to_caller stage_of b old history out new) shut settles) in
        ap (λ (ms : List Moment). happening_by by ++ happened ms) none.0 ∙ append-nil (happening_by by) ∙ sym (comes_happen trigger t by)
        ∙ sym (ap happening_by (append-nil (comes_of trigger t by).0)) ∙ sym (ap (λ (es : List Effect). happening_by ((comes_of trigger t by).0 ++ es)) none.1)
    split false still =
        ap (λ (x : List ConnectionEvent). x ++ happened history) (sym (comes_happen trigger t by)) ∙ ap (λ (x : List ConnectionEvent). happening_by (comes_of trigger t by).0 ++ x) h
        ∙ sym (happening_both (comes_of trigger t by).0 out (closes_comes trigger t by ∙ still))

settles_happen : {closed : Bool} {old new : Served} {history : List Moment} {out : List Effect} → Settles is_supported_to_caller stage_of closed old history out new
    → happened history ≡ happening_by out
settles_happen has_closed = refl
settles_happen (nothing_owed e) = refl
settles_happen (to_peer m t mid is next settles all) = settles_happen settles ∙ sym (ap happening_by all)
settles_happen (to_vat {history = later} {out = more} m t mid by vat is next step settles whole all) =
    ap happened whole ∙ happens_then triggers.Message (Some mid) by later more settles (settles_happen settles) ∙ sym (ap happening_by all)

goes_happen : {old new : Served} {event : Event} {value : Value} {history : List Moment} {out : List Effect} → Goes is_supported_to_caller stage_of old event value history out new
    → happened history ≡ happening_by out
goes_happen {old = old} {event = event} h =
    ap happened h.whole ∙ happens_then (trigger_of event) old.tails h.by h.later h.rest h.settles (settles_happen h.settles) ∙ sym (ap happening_by h.all)

-- what happens by what the vat did is what happens by what comes of it
pub serves_happen : {old new : Served} {event : Event} {result : Result Value VatFault} {history : List Moment} {out : List Effect}
    → Serves is_supported_to_caller stage_of old event result history out new → happened history ≡ happening_by out
serves_happen (calls event call goes) = goes_happen goes
serves_happen (takes m on mid came goes) = goes_happen goes
serves_happen (keeps m mid open_ came settles) = settles_happen settles
serves_happen (refuses event step same) = refl

-- ---- without tail calls

-- it is one step of the vat
pub is_step : {old new : Link} {event : Event} {result : Result Value VatFault} (d : Does old event result new) → old.tails ≡ None → IsStep (served old) event result d.history d.effects (served new)
is_step {old = old} {new = new} {event = event} {result = result} d none =
    serves_alone is_supported_to_caller stage_of (served old) (served new) event result d.history d.effects none d.serves

pub steps_alone : {old new : Link} {event : Event} {result : Result Value VatFault} (d : Does old event result new) → old.tails ≡ None → Step old.vat event result d.effects new.vat
steps_alone d none = (is_step d none).step

settles_none : {closed : Bool} {old new : Served} {history : List Moment} {out : List Effect} → Settles is_supported_to_caller stage_of closed old history out new → old.tails ≡ None → new.tails ≡ None
settles_none has_closed none = none
settles_none (nothing_owed e) none = none
settles_none (to_peer m t mid is next settles all) none = absurd (true≢false (ap is_none (sym none ∙ is)))
settles_none (to_vat m t mid by vat is next step settles whole all) none = absurd (true≢false (ap is_none (sym none ∙ is)))

goes_none : {old new : Served} {event : Event} {value : Value} {history : List Moment} {out : List Effect} → Goes is_supported_to_caller stage_of old event value history out new
    → old.tails ≡ None → new.tails ≡ None
goes_none {event = event} h none = settles_none h.settles (ap (λ (t : Option Tails). (comes_of (trigger_of event) t h.by).1) none)

-- and none are served after it
serves_none : {old new : Served} {event : Event} {result : Result Value VatFault} {history : List Moment} {out : List Effect}
    → Serves is_supported_to_caller stage_of old event result history out new → old.tails ≡ None → result ≢ Err refusals.OutOfMemory → new.tails ≡ None
serves_none (calls event call goes) none n = goes_none goes none
serves_none {old = old} (takes m on mid came goes) none n =
    goes_none goes (ap (λ (x : Option Message × Option Tails). x.1) (sym came ∙ ap (λ (t : Option Tails). gets is_supported_to_caller stage_of old.vat t m) none))
serves_none {old = old} (keeps m mid open_ came settles) none n =
    settles_none settles (ap (λ (x : Option Message × Option Tails). x.1) (sym came ∙ ap (λ (t : Option Tails). gets is_supported_to_caller stage_of old.vat t m) none))
serves_none (refuses {fault = fault} event step same) none n = ap (λ (s : Served). s.tails) (same (λ e. n (ap (λ (f : VatFault). Err f) e))) ∙ none

memory_ends : (result : Result Value VatFault) (all : List Effect) (f : Option ConnectionFault) → f ≡ ended_by result all → f ≡ None → result ≢ Err refusals.OutOfMemory
memory_ends result all f ends open_ e = true≢false (ap is_none (sym open_ ∙ ends ∙ ap (λ (r : Result Value VatFault). ended_by r all) e))

pub stays_alone : {old new : Link} {event : Event} {result : Result Value VatFault} (d : Does old event result new) → old.tails ≡ None → new.fault ≡ None → new.tails ≡ None
stays_alone {new = new} {result = result} d none open_ = serves_none d.serves none (memory_ends result d.effects new.fault d.ends open_)

pub served_none : {old new : Link} {event : Event} {value : Value} (d : Does old event (Ok value) new) → old.tails ≡ None → new.tails ≡ None
served_none d none = serves_none d.serves none (λ e. ok_out e)
