-- Parts of an event at its own end in which no call of a lane moves: silent ones, and turns of calls that aren't of the lane.
use Rattle.std.specs.Prelude.{◌≡◌, ◌⊎◌, refl, ℕ, ◌==◌, Bool, true, false, List, [], ◌∷◌, ◌++◌, flat_map, Some, None}
use Rattle.std.specs.List.{list_any, AllByRecursion}
use Rattle.std.specs.FinMap.{get, insert, values}
use Rattle.std.proofs.Common.{inl, inr, ap, sym, ◌∙◌, true≢false}
use Rattle.cp_messages.specs.declared.message.Message.{Message}
use Rattle.cp_messages.specs.declared.message.Message.TheVariants as messages
use Rattle.cp_refs.specs.declared.call.WaitingCall.{WaitingCall}
use Rattle.cp_refs.specs.declared.call.Origin.{Origin}
use Rattle.cp_refs.specs.declared.call.Origin.TheVariants as origins
use Rattle.cp_refs.specs.declared.route.Gate.{Gate}
use Rattle.cp_vat_machine.specs.State.{State}
use Rattle.cp_vat_machine.specs.Go.{without_call, underway}
use Rattle.cp_vat_machine.specs.declared.effect.Effect.{Effect}
use Rattle.cp_vat_machine.proofs.Basics.{is_equal, is_itself, gone_at, or_first, or_second}
use Rattle.cp_vat_laws.proofs.Tables.{put_cases, gone_cases}
use Rattle.cp_vat_pair_laws.specs.VatPair.{End, messages_sent}
use Rattle.cp_vat_pair_laws.specs.Lane.{own_ticket, answer_forwarded}
use Rattle.cp_vat_pair_laws.specs.Phases.{of_lane, sent_for, forwarded_for, waits_as, stands_as, waits_here, NoneHeld}
use Rattle.cp_vat_pair_laws.proofs.lane.Calm.{IsFront}
use Rattle.cp_vat_pair_laws.proofs.lane.own.Calm.{LevelHere}
use Rattle.cp_vat_pair_laws.proofs.lane.parts.Tables.{put_placed, gone_placed, lane_without}
use Rattle.cp_vat_pair_laws.proofs.lane.parts.Silent.{is_call, Silent}
use Rattle.cp_vat_pair_laws.proofs.lane.parts.Go.{SentFor, Went, failed_, delivered_, waits_, sent_}

-- what calls stand for, where own questions bear the same tickets
flat_same : (f g : ℕ → List ℕ) → ((q : ℕ) → g q ≡ f q) → (qs : List ℕ) → flat_map g qs ≡ flat_map f qs
flat_same f g same [] = refl
flat_same f g same (q ∷ qs) = ap (λ xs. xs ++ flat_map g qs) (same q) ∙ ap (λ xs. f q ++ xs) (flat_same f g same qs)

pub stands_on : (here mid there : State) → ((q : ℕ) → own_ticket (get mid.entries.questions q) ≡ own_ticket (get here.entries.questions q)) → (origin : Origin)
    → stands_as mid there origin ≡ stands_as here there origin
stands_on here mid there same (origins.Answer a) =
    flat_same (λ q. own_ticket (get here.entries.questions q)) (λ q. own_ticket (get mid.entries.questions q)) same (answer_forwarded (get there.entries.questions a))
stands_on here mid there same (origins.Own q) = refl

-- no Call is sent
none_sent : (mid : State) (made : List ℕ) (ms : List Message) → list_any is_call ms ≡ false → AllByRecursion (λ m. of_lane made (sent_for mid m) ≡ []) ms
none_sent mid made [] none = tt
none_sent mid made (m ∷ ms) none = (by m (or_first (is_call m) (list_any is_call ms) none), none_sent mid made ms (or_second (is_call m) (list_any is_call ms) none))
  where
    by : (m : Message) → is_call m ≡ false → of_lane made (sent_for mid m) ≡ []
    by (messages.Call c) not_ = absurd (true≢false not_)
    by m not_ = refl

-- a silent part
module _ (here there : End) (made : List ℕ) (mid : State) (inbox : List Message) (taken : IsFront (λ m. of_lane made (forwarded_for here.vat there.vat m) ≡ []) here.inbox inbox)
  where
    pub silent_here : (effects : List Effect) → Silent here.vat effects mid → LevelHere here there made mid inbox (messages_sent effects)
    silent_here effects silent =
        record {
          tickets = λ q. ap (of_lane made) (silent.bearing.tickets q);
          waiting = ap (λ calls. of_lane made (flat_map (λ call. waits_as call call.origin) (values calls))) silent.calls;
          calls = λ ticket call is. inr (sym (ap (λ m. get m ticket) silent.calls) ∙ is);
          held = λ none ticket call is.
              ap (of_lane made) (stands_on here.vat mid there.vat silent.bearing.tickets call.origin) ∙ none ticket call (sym (ap (λ m. get m ticket) silent.calls) ∙ is);
          sends = none_sent mid made (messages_sent effects) silent.no_call;
          taken = taken;
        }

-- a turn of a call that isn't of the lane
module _ (here there : End) (made : List ℕ) (call : WaitingCall) (is : get here.vat.waiting.calls call.ticket ≡ Some call) (none : of_lane made (waits_as call call.origin) ≡ [])
    (own : (q : ℕ) → call.origin ≡ origins.Own q → of_lane made (own_ticket (get here.vat.entries.questions q)) ≡ []) where
  abbrev left : State
  left = without_call here.vat call

  gone_list : of_lane made (flat_map (λ held. waits_as held held.origin) (values left.waiting.calls)) ≡ waits_here here made
  gone_list = sym (lane_without made (λ held. waits_as held held.origin) (gone_placed here.vat.waiting.calls call.ticket call is) none)

  gone_calls : (ticket : ℕ) (held : WaitingCall) → get left.waiting.calls ticket ≡ Some held → get here.vat.waiting.calls ticket ≡ Some held
  gone_calls ticket held at = (gone_cases here.vat.waiting.calls call.ticket ticket held at).1

  -- it waits again
  abbrev again : Gate → WaitingCall
  again gate = record { ticket = call.ticket; origin = call.origin; request = call.request; gate = gate }

  again_none : (gate : Gate) (origin : Origin) → of_lane made (waits_as call origin) ≡ [] → of_lane made (waits_as (again gate) origin) ≡ []
  again_none gate (origins.Own q) none_ = none_
  again_none gate (origins.Answer a) none_ = refl

  again_list : (gate : Gate) → of_lane made (flat_map (λ held. waits_as held held.origin) (values (insert left.waiting.calls call.ticket (again gate)))) ≡ waits_here here made
  again_list gate =
      lane_without made (λ held. waits_as held held.origin)
      (put_placed left.waiting.calls call.ticket (again gate) (gone_at here.vat.waiting.calls call.ticket call.ticket true (is_itself call.ticket)))
      (again_none gate call.origin none)
      ∙ gone_list

  again_calls : (gate : Gate) (ticket : ℕ) (held : WaitingCall) → get (insert left.waiting.calls call.ticket (again gate)) ticket ≡ Some held
      → of_lane made (waits_as held held.origin) ≡ [] ⊎ (get here.vat.waiting.calls ticket ≡ Some held)
  again_calls gate ticket held at =
      elim (put_cases left.waiting.calls call.ticket ticket (again gate) held at) [
        | inl new ↦ inl (ap (λ (h : WaitingCall). of_lane made (waits_as h h.origin)) (sym new.1) ∙ again_none gate call.origin none)
        | inr old ↦ inr (gone_calls ticket held old.1)
      ]

  again_held : (gate : Gate) → NoneHeld here there made → (ticket : ℕ) (held : WaitingCall) → get (insert left.waiting.calls call.ticket (again gate)) ticket ≡ Some held
      → of_lane made (stands_as here.vat there.vat held.origin) ≡ []
  again_held gate none_ ticket held at =
      elim (put_cases left.waiting.calls call.ticket ticket (again gate) held at) [
        | inl new ↦ ap (λ (h : WaitingCall). of_lane made (stands_as here.vat there.vat h.origin)) (sym new.1) ∙ none_ call.ticket call is
        | inr old ↦ none_ ticket held (gone_calls ticket held old.1)
      ]

  -- where nothing is sent for it
  quiet_here : (mid : State) (effects : List Effect) → Silent left effects mid → LevelHere here there made mid here.inbox (messages_sent effects)
  quiet_here mid effects silent =
      record {
        tickets = λ q. ap (of_lane made) (silent.bearing.tickets q);
        waiting = ap (λ cs. of_lane made (flat_map (λ held. waits_as held held.origin) (values cs))) silent.calls ∙ gone_list;
        calls = λ ticket held at. inr (gone_calls ticket held (sym (ap (λ cs. get cs ticket) silent.calls) ∙ at));
        held = λ none_ ticket held at.
            ap (of_lane made) (stands_on here.vat mid there.vat silent.bearing.tickets held.origin)
            ∙ none_ ticket held (gone_calls ticket held (sym (ap (λ cs. get cs ticket) silent.calls) ∙ at));
        sends = none_sent mid made (messages_sent effects) silent.no_call;
        taken = inl refl;
      }

  -- where it is sent
  module _ (mid : State) (q : ℕ) (calls : mid.waiting.calls ≡ left.waiting.calls) (effects : List Effect) (m : Message) (sends : messages_sent effects ≡ m ∷ [])
      (it : sent_for mid m ≡ own_ticket (get mid.entries.questions q)) where
    level_by : ((r : ℕ) → own_ticket (get mid.entries.questions r) ≡ own_ticket (get here.vat.entries.questions r)) → of_lane made (own_ticket (get mid.entries.questions q)) ≡ []
        → LevelHere here there made mid here.inbox (messages_sent effects)
    level_by tickets none_ =
        record {
          tickets = λ r. ap (of_lane made) (tickets r);
          waiting = ap (λ cs. of_lane made (flat_map (λ held. waits_as held held.origin) (values cs))) calls ∙ gone_list;
          calls = λ ticket held at. inr (gone_calls ticket held (sym (ap (λ cs. get cs ticket) calls) ∙ at));
          held = λ before ticket held at.
              ap (of_lane made) (stands_on here.vat mid there.vat tickets held.origin)
              ∙ before ticket held (gone_calls ticket held (sym (ap (λ cs. get cs ticket) calls) ∙ at));
          sends = rw (sends) (ap (of_lane made) it ∙ none_, tt);
          taken = inl refl;
        }

    new_tickets : get here.vat.entries.questions q ≡ None → own_ticket (get mid.entries.questions q) ≡ []
        → ((r : ℕ) → (q == r) ≡ false → get mid.entries.questions r ≡ get here.vat.entries.questions r) → (r : ℕ) (b : Bool) → (q == r) ≡ b
        → own_ticket (get mid.entries.questions r) ≡ own_ticket (get here.vat.entries.questions r)
    new_tickets fresh none_ others r true t =
        let same : q ≡ r = is_equal q r t in
        ap (λ x. own_ticket (get mid.entries.questions x)) (sym same) ∙ none_ ∙ sym (ap own_ticket (ap (λ x. get here.vat.entries.questions x) (sym same) ∙ fresh))
    new_tickets fresh none_ others r false t = ap own_ticket (others r t)

    sent_here : (origin : Origin) → call.origin ≡ origin → SentFor origin left q mid → LevelHere here there made mid here.inbox (messages_sent effects)
    sent_here (origins.Own p) at for_ =
        let mine : of_lane made (own_ticket (get mid.entries.questions q)) ≡ [] =
        ap (of_lane made) (for_.1.tickets q) ∙ ap (λ x. of_lane made (own_ticket (get here.vat.entries.questions x))) for_.0 ∙ own p at in
        level_by for_.1.tickets mine
    sent_here (origins.Answer a) at for_ = level_by (λ r. new_tickets for_.0 for_.1 for_.3 r (q == r) refl) (ap (of_lane made) for_.1)

  pub turn_here : (mid : State) (effects : List Effect) → Went (underway call) left effects mid → LevelHere here there made mid here.inbox (messages_sent effects)
  turn_here mid effects (failed_ silent) = quiet_here mid effects silent
  turn_here mid effects (delivered_ k same silent) = rw (same) (quiet_here mid [] silent)
  turn_here mid effects (waits_ gate same new) =
      rw
      (same, new)
      (record {
        tickets = λ q. refl;
        waiting = again_list gate;
        calls = again_calls gate;
        held = λ none_ ticket held at. again_held gate none_ ticket held at;
        sends = tt;
        taken = inl refl;
      })
  turn_here mid effects (sent_ q target table same calls for_) = sent_here mid q calls effects _ (ap messages_sent same) refl call.origin refl for_
