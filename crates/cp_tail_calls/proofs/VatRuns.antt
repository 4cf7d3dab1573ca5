-- What a vat behind tail calls does is a run of it, and without tail calls it is one step.
use Rattle.std.proofs.Common.{◌≡◌, ℕ, Bool, false, List, [], ◌∷◌, ◌++◌, Option, Some, None, Ok, refl, sym, ap, ◌∙◌, subst, append-nil}
use Rattle.cp_tables.specs.declared.exchange.Stage.{Stage}
use Rattle.cp_messages.specs.declared.call.Call.{Call}
use Rattle.cp_messages.specs.declared.message.Message.{Message}
use Rattle.cp_vat_machine.specs.Run.{Moment, Steps}
use Rattle.cp_vat_machine.specs.State.{State}
use Rattle.cp_vat_machine.specs.Step.{Step}
use Rattle.cp_vat_machine.specs.declared.effect.Effect.{Effect}
use Rattle.cp_vat_machine.specs.declared.event.Event.{Event}
use Rattle.cp_vat_machine.specs.declared.event.Event.TheVariants as events
use Rattle.cp_vat_machine.specs.declared.event.Value.{Value}
use Rattle.cp_vat_machine.specs.declared.event.Value.TheVariants as values
use Rattle.cp_tail_calls.specs.declared.forwarding.Trigger.TheVariants as triggers
use Rattle.cp_tail_calls.specs.Tails.{Tails}
use Rattle.cp_tail_calls.specs.Serving.{Served, moment, closes, Settles, nothing_owed, has_closed, to_peer, to_vat, comes_of, gets, trigger_of, Goes, calls, takes, keeps, refuses, RunsBehind, IsStep, ServesAlone}

module _ (acts_on : Call → Bool) (stage_of : State → ℕ → Option Stage) where
  settles-runs : (closed : Bool) (old new : Served) (history : List Moment) (out : List Effect) → Settles acts_on stage_of closed old history out new
      → Steps old.vat history new.vat
  settles-runs closed old new history out has_closed = refl
  settles-runs closed old new history out (nothing_owed e) = refl
  settles-runs closed old new history out (to_peer {out = more} m t mid is next settles all) =
      settles-runs false (record old { tails = Some mid }) new history more settles
  settles-runs closed old new history out (to_vat {history = later} {out = more} m t mid by vat is next step settles whole all) =
      subst
      (λ (h : List Moment). Steps old.vat h new.vat)
      (sym whole)
      (vat, step, settles-runs (closes by) (record { vat = vat; tails = (comes_of triggers.Message (Some mid) by).1 }) new later more settles)

  goes-runs : (old new : Served) (event : Event) (value : Value) (history : List Moment) (out : List Effect) → Goes acts_on stage_of old event value history out new
      → Steps old.vat history new.vat
  goes-runs old new event value history out h =
      subst
      (λ (hs : List Moment). Steps old.vat hs new.vat)
      (sym h.whole)
      (h.vat, h.step, settles-runs (closes h.by) (record { vat = h.vat; tails = (comes_of (trigger_of event) old.tails h.by).1 }) new h.later h.rest h.settles)

pub runs_behind : RunsBehind
runs_behind acts_on stage_of old new event result history out (calls {value = value} event_ call goes) =
    goes-runs acts_on stage_of old new event value history out goes
runs_behind acts_on stage_of old new event result history out (takes m on mid came goes) =
    goes-runs acts_on stage_of (record old { tails = mid }) new (events.Receive on) values.Nothing history out goes
runs_behind acts_on stage_of old new event result history out (keeps m mid open_ came settles) =
    settles-runs acts_on stage_of false (record old { tails = mid }) new history out settles
runs_behind acts_on stage_of old new event result history out (refuses event_ step same) = (new.vat, step, refl)

none≢some : (t : Tails) → None ≡ Some t → ⊥
none≢some t e = cc

some≢none : (m : Message) → Some m ≡ None → ⊥
some≢none m e = cc

some-injective : (m on : Message) → Some m ≡ Some on → m ≡ on
some-injective m on e = cc

module _ (acts_on : Call → Bool) (stage_of : State → ℕ → Option Stage) where
  -- nothing is owed where tail calls aren't served
  settles-alone : (closed : Bool) (old new : Served) (history : List Moment) (out : List Effect) → old.tails ≡ None → Settles acts_on stage_of closed old history out new
      → (history ≡ []) × (out ≡ []) × (new ≡ old)
  settles-alone closed old new history out e has_closed = (refl, refl, refl)
  settles-alone closed old new history out e (nothing_owed x) = (refl, refl, refl)
  settles-alone closed old new history out e (to_peer m t mid is next settles all) = absurd (none≢some t (sym e ∙ is))
  settles-alone closed old new history out e (to_vat m t mid by vat is next step settles whole all) = absurd (none≢some t (sym e ∙ is))

  goes-alone : (old new : Served) (event : Event) (value : Value) (history : List Moment) (out : List Effect) → old.tails ≡ None
      → Goes acts_on stage_of old event value history out new → IsStep old event (Ok value) history out new
  goes-alone old new event value history out e h =
      let left : (comes_of (trigger_of event) old.tails h.by).1 ≡ None = ap (λ (o : Option Tails). (comes_of (trigger_of event) o h.by).1) e in
      let same_by : (comes_of (trigger_of event) old.tails h.by).0 ≡ h.by = ap (λ (o : Option Tails). (comes_of (trigger_of event) o h.by).0) e in
      let done = settles-alone (closes h.by) (record { vat = h.vat; tails = (comes_of (trigger_of event) old.tails h.by).1 }) new h.later h.rest left h.settles in
      let same_out : out ≡ h.by = h.all ∙ ap (λ (x : List Effect). x ++ h.rest) same_by ∙ ap (λ (x : List Effect). h.by ++ x) done.1 ∙ append-nil h.by in
      let same_vat : new.vat ≡ h.vat = ap (λ (s : Served). s.vat) done.2 in
      record {
        step = subst (λ (v : State). Step old.vat event (Ok value) out v) (sym same_vat) (subst (λ (x : List Effect). Step old.vat event (Ok value) x h.vat) (sym same_out) h.step);
        one =
            h.whole
            ∙ ap (λ (x : List Effect). moment event (Ok value) x ∷ h.later) (sym same_out)
            ∙ ap (λ (ms : List Moment). moment event (Ok value) out ∷ ms) done.0;
      }

pub serves_alone : ServesAlone
serves_alone acts_on stage_of old new event result history out e (calls {value = value} event_ call goes) =
    goes-alone acts_on stage_of old new event value history out e goes
serves_alone acts_on stage_of old new event result history out e (takes m on mid came goes) =
    let got : gets acts_on stage_of old.vat old.tails m ≡ (Some m, None) = ap (λ (o : Option Tails). gets acts_on stage_of old.vat o m) e in
    let same : ◌≡◌ {A = Option Message × Option Tails} (Some m, None) (Some on, mid) = sym got ∙ came in
    subst
    (λ (x : Message). IsStep old (events.Receive x) (Ok values.Nothing) history out new)
    (sym (some-injective m on (ap (λ (p : Option Message × Option Tails). p.0) same)))
    (as-old (goes-alone acts_on stage_of (record old { tails = mid }) new (events.Receive on) values.Nothing history out (sym (ap (λ (p : Option Message × Option Tails). p.1) same)) goes))
  where
    as-old : IsStep (record old { tails = mid }) (events.Receive on) (Ok values.Nothing) history out new → IsStep old (events.Receive on) (Ok values.Nothing) history out new
    as-old h = record { step = h.step; one = h.one }
serves_alone acts_on stage_of old new event result history out e (keeps m mid open_ came settles) =
    let got : gets acts_on stage_of old.vat old.tails m ≡ (Some m, None) = ap (λ (o : Option Tails). gets acts_on stage_of old.vat o m) e in
    absurd (some≢none m (ap (λ (p : Option Message × Option Tails). p.0) (sym got ∙ came)))
serves_alone acts_on stage_of old new event result history out e (refuses event_ step same) = record { step = step; one = refl }
