-- A Call that comes to the lane's own end and isn't of the lane keeps it, by whatever route it goes.
use Rattle.std.specs.Prelude.{◌≡◌, ◌⊎◌, refl, ℕ, ◌==◌, Bool, true, false, List, [], ◌∷◌, flat_map, Some, None, IsTrue, Ok}
use Rattle.std.specs.FinMap.{get, insert, values}
use Rattle.std.proofs.Common.{inl, inr, ap, sym, ◌∙◌, true≢false}
use Rattle.cp_tables.specs.declared.exchange.Exchange.{Exchange}
use Rattle.cp_messages.specs.declared.descriptor.Descriptor.{Descriptor}
use Rattle.cp_messages.specs.declared.message.Message.{Message}
use Rattle.cp_messages.specs.declared.target.Target.{Target}
use Rattle.cp_messages.specs.declared.target.Target.TheVariants as targets
use Rattle.cp_refs.specs.declared.call.WaitingCall.{WaitingCall}
use Rattle.cp_refs.specs.declared.call.Origin.TheVariants as origins
use Rattle.cp_refs.specs.declared.outcome.Outcome.TheVariants as outcomes
use Rattle.cp_refs.specs.declared.route.Gate.{Gate}
use Rattle.cp_refs.specs.declared.route.Route.{Route}
use Rattle.cp_refs.specs.declared.route.Route.TheVariants as routes
use Rattle.cp_vat_machine.specs.State.{State}
use Rattle.cp_vat_machine.specs.Then.{Done}
use Rattle.cp_vat_machine.specs.Capacity.{Fresh}
use Rattle.cp_vat_machine.specs.Writing.{WritesDescriptors, promised}
use Rattle.cp_vat_machine.specs.Go.{PendingCall, call_of, GoOut, Go}
use Rattle.cp_vat_machine.specs.Local.{is_wire}
use Rattle.cp_vat_machine.specs.declared.effect.Effect.{Effect}
use Rattle.cp_vat_machine.specs.declared.entry.AnswerEntry.{AnswerEntry}
use Rattle.cp_vat_machine.proofs.Basics.{ok_in, then_out, is_equal}
use Rattle.cp_vat_laws.proofs.Tables.{put_cases}
use Rattle.cp_vat_pair_laws.specs.VatPair.{End, messages_sent}
use Rattle.cp_vat_pair_laws.specs.Turns.{AreOpen}
use Rattle.cp_vat_pair_laws.specs.Lane.{own_ticket, answer_forwarded, stands_for}
use Rattle.cp_vat_pair_laws.specs.Phases.{of_lane, forwarded_for, waits_as, stands_as, waits_here}
use Rattle.cp_vat_pair_laws.proofs.counts.rules.Accounts.{free_out}
use Rattle.cp_vat_pair_laws.proofs.counts.rules.Say.{said_all}
use Rattle.cp_vat_pair_laws.proofs.lane.Calm.{IsFront}
use Rattle.cp_vat_pair_laws.proofs.lane.own.Calm.{LevelHere}
use Rattle.cp_vat_pair_laws.proofs.lane.parts.Tables.{put_placed, lane_without}
use Rattle.cp_vat_pair_laws.proofs.lane.parts.Go.{Went, failed_, delivered_, waits_, sent_}
use Rattle.cp_vat_pair_laws.proofs.lane.own.NotOfLane.{silent_here, stands_on}
use Rattle.cp_vat_pair_laws.proofs.lane.parts.Calm.{Calm, NoneOpenOver, calm_only, answer_calm, delivered_calm, held_calm}
use Rattle.cp_vat_pair_laws.proofs.lane.own.Turn.{lane_delivered, none_delivered, one_delivered, sent_tickets}

-- The lists of a lane that a peer's call in hand isn't of.
module _ (here there : End) (made : List ℕ) (call : PendingCall) (a : ℕ) (from : call.origin ≡ origins.Answer a) (none : of_lane made (stands_for here.vat there.vat a) ≡ [])
    (unheld : get here.vat.waiting.calls call.ticket ≡ None) (rest : List Message)
    (taken : IsFront (λ m. of_lane made (forwarded_for here.vat there.vat m) ≡ []) here.inbox rest) where
  abbrev as_held : Gate → WaitingCall
  as_held gate = record { ticket = call.ticket; origin = call.origin; request = call.request; gate = gate }

  held_none : (gate : Gate) → of_lane made (waits_as (as_held gate) call.origin) ≡ []
  held_none gate = ap (λ o. of_lane made (waits_as (as_held gate) o)) from

  held_stands : of_lane made (stands_as here.vat there.vat call.origin) ≡ []
  held_stands = ap (λ o. of_lane made (stands_as here.vat there.vat o)) from ∙ none

  held_list : (gate : Gate) → of_lane made (flat_map (λ held. waits_as held held.origin) (values (insert here.vat.waiting.calls call.ticket (as_held gate)))) ≡ waits_here here made
  held_list gate = lane_without made (λ held. waits_as held held.origin) (put_placed here.vat.waiting.calls call.ticket (as_held gate) unheld) (held_none gate)

  held_calls : (gate : Gate) (ticket : ℕ) (held : WaitingCall) → get (insert here.vat.waiting.calls call.ticket (as_held gate)) ticket ≡ Some held
      → of_lane made (waits_as held held.origin) ≡ [] ⊎ (get here.vat.waiting.calls ticket ≡ Some held)
  held_calls gate ticket held at =
      elim (put_cases here.vat.waiting.calls call.ticket ticket (as_held gate) held at) [
        | inl new ↦ inl (ap (λ (h : WaitingCall). of_lane made (waits_as h h.origin)) (sym new.1) ∙ held_none gate)
        | inr old ↦ inr old.1
      ]

  held_held : (gate : Gate) → ((ticket : ℕ) (held : WaitingCall) → get here.vat.waiting.calls ticket ≡ Some held → of_lane made (stands_as here.vat there.vat held.origin) ≡ [])
      → (ticket : ℕ) (held : WaitingCall) → get (insert here.vat.waiting.calls call.ticket (as_held gate)) ticket ≡ Some held
      → of_lane made (stands_as here.vat there.vat held.origin) ≡ []
  held_held gate before ticket held at =
      elim (put_cases here.vat.waiting.calls call.ticket ticket (as_held gate) held at) [
        | inl new ↦ ap (λ (h : WaitingCall). of_lane made (stands_as here.vat there.vat h.origin)) (sym new.1) ∙ held_stands
        | inr old ↦ before ticket held old.1
      ]

  pub hand_here : (mid : State) (effects : List Effect) → Went call here.vat effects mid → LevelHere here there made mid rest (messages_sent effects)
  hand_here mid effects (failed_ silent) = silent_here here there made mid rest taken effects silent
  hand_here mid effects (delivered_ k is silent) = rw (is) (silent_here here there made mid rest taken [] silent)
  hand_here mid effects (waits_ gate is new) =
      rw
      (is, new)
      (record {
        tickets = λ q. refl;
        waiting = held_list gate;
        calls = held_calls gate;
        held = λ before ticket held at. held_held gate before ticket held at;
        sends = tt;
        taken = taken;
      })
  hand_here mid effects (sent_ q target table is calls for_) =
      let same : (r : ℕ) → own_ticket (get mid.entries.questions r) ≡ own_ticket (get here.vat.entries.questions r) =
      λ r. sent_tickets here.vat mid q r call.origin for_ in
      let opened_ : (get here.vat.entries.questions q ≡ None) × (own_ticket (get mid.entries.questions q) ≡ []) × (answer_forwarded (get mid.entries.questions q) ≡ a ∷ [])
      × ((r : ℕ) → (q == r) ≡ false → get mid.entries.questions r ≡ get here.vat.entries.questions r) = rw from at for_ in
      record {
        tickets = λ r. ap (of_lane made) (same r);
        waiting = ap (λ cs. of_lane made (flat_map (λ held. waits_as held held.origin) (values cs))) calls;
        calls = λ ticket held at. inr (sym (ap (λ cs. get cs ticket) calls) ∙ at);
        held = λ before ticket held at.
            ap (of_lane made) (stands_on here.vat mid there.vat same held.origin) ∙ before ticket held (sym (ap (λ cs. get cs ticket) calls) ∙ at);
        sends = rw (is) (ap (of_lane made) opened_.1, tt);
        taken = taken;
      }

  -- nothing of the lane is delivered
  pub hand_delivers : (old : State) → of_lane made (stands_for old there.vat a) ≡ [] → (mid : State) (effects : List Effect) → Went call here.vat effects mid
      → lane_delivered old there.vat made effects ≡ []
  hand_delivers old not_ mid effects (failed_ silent) = none_delivered old there.vat made effects silent.no_delivery
  hand_delivers old not_ mid effects (delivered_ k is silent) =
      ap (lane_delivered old there.vat made) is ∙ one_delivered old there.vat made k call (origins.Answer a) from not_
  hand_delivers old not_ mid effects (waits_ gate is new) = ap (lane_delivered old there.vat made) is
  hand_delivers old not_ mid effects (sent_ q target table is calls for_) = ap (lane_delivered old there.vat made) is

-- A peer's call in hand leaves references, marks and the gates that are over as they are.
module _ (old : State) (call : PendingCall) (a : ℕ) (from : call.origin ≡ origins.Answer a) (none_open : NoneOpenOver old) (not_over : get old.waiting.over.answers a ≡ None)
    (tied : (entry : Exchange AnswerEntry) → get old.entries.answers a ≡ Some entry → AreOpen old.values entry.kept.tied)
    (unvalued : (q : ℕ) → get old.entries.questions q ≡ None → get old.values.questions q ≡ None) where
  wire_not : (q r : ℕ) (b : Bool) → (q == r) ≡ b → get old.values.questions q ≡ None → IsTrue (is_wire (get old.values.questions r)) → (q == r) ≡ false
  wire_not q r true t none on = absurd (true≢false (sym on ∙ ap (λ n. is_wire (get old.values.questions n)) (sym (is_equal q r t)) ∙ ap is_wire none))
  wire_not q r false t none on = t

  out_calm : (target : Target) (done : Done) → GoOut old call target (origins.Answer a) (Ok done) → Calm old done.0 done.1
  out_calm target done goes =
      let fresh = then_out {A = ℕ} {B = Done} (Fresh old.entries.questions) _ done goes in
      let parts = then_out {A = List Descriptor × State} {B = Done} (WritesDescriptors old call.request.caps) _ done fresh.2 in
      let only = (said_all call.request.caps old parts.0 parts.1).only in
      let none = unvalued fresh.0 (free_out old.entries.questions fresh.0 fresh.1) in
      let calm = calm_only old parts.0.1 (call_of fresh.0 target call.request parts.0.0 ∷ []) only
      (λ r on. rw (wire_not fresh.0 r (fresh.0 == r) refl none on) refl) (λ n. refl) in
      rw
      (ok_in _ _ parts.2)
      (record { imports = calm.imports; questions = calm.questions; marks = calm.marks; gave_ = calm.gave_; no_open = calm.no_open; no_loop = calm.no_loop })

  pub hand_calm : (route : Route) (done : Done) → Go old call route (Ok done) → Calm old done.0 done.1
  hand_calm (routes.Deliver k) done goes =
      let calm = delivered_calm old call.origin in
      rw
      (ok_in _ _ goes)
      (record { imports = calm.imports; questions = calm.questions; marks = calm.marks; gave_ = calm.gave_; no_open = calm.no_open; no_loop = calm.no_loop })
  hand_calm (routes.Import i) done goes = out_calm (targets.ImportedCap i) done (rw from at goes)
  hand_calm (routes.Pipe q path) done goes = out_calm (targets.PromisedAnswer (promised q path)) done (rw from at goes)
  hand_calm (routes.Wait gate) done goes = rw (ok_in _ _ goes) (held_calm old call gate)
  hand_calm (routes.Fail x) done goes = answer_calm old a (outcomes.Failed x) done none_open not_over tied (rw from at goes)
