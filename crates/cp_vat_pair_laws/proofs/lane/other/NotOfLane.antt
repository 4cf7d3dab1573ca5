-- A turn at the other end of a call that isn't of the lane moves none of it.
use Rattle.std.specs.Prelude.{◌≡◌, ◌⊎◌, refl, ℕ, ◌==◌, Bool, true, false, List, [], ◌∷◌, flat_map, Some, None}
use Rattle.std.specs.List.{list_any, AllByRecursion}
use Rattle.std.specs.FinMap.{get, insert, values}
use Rattle.std.proofs.Common.{inl, inr, ap, sym, ◌∙◌, append-nil, true≢false}
use Rattle.cp_messages.specs.declared.message.Message.{Message}
use Rattle.cp_messages.specs.declared.message.Message.TheVariants as messages
use Rattle.cp_refs.specs.declared.call.WaitingCall.{WaitingCall}
use Rattle.cp_refs.specs.declared.call.Origin.{Origin}
use Rattle.cp_refs.specs.declared.call.Origin.TheVariants as origins
use Rattle.cp_refs.specs.declared.route.Gate.{Gate}
use Rattle.cp_vat_machine.specs.State.{State}
use Rattle.cp_vat_machine.specs.Go.{held_at, without_call, underway}
use Rattle.cp_vat_machine.specs.declared.effect.Effect.{Effect}
use Rattle.cp_vat_machine.proofs.Basics.{is_equal, is_itself, other_number, gone_at, or_first, or_second}
use Rattle.cp_vat_laws.proofs.Tables.{every_of, put_cases, gone_cases}
use Rattle.cp_vat_pair_laws.specs.Ledger.{opens}
use Rattle.cp_vat_pair_laws.specs.VatPair.{End, messages_sent}
use Rattle.cp_vat_pair_laws.specs.Lane.{own_ticket, answer_forwarded, stands_for}
use Rattle.cp_vat_pair_laws.specs.Phases.{of_lane, forwarded_for, waits_for, stands_as, waits}
use Rattle.cp_vat_pair_laws.proofs.lane.other.Calm.{LevelThere}
use Rattle.cp_vat_pair_laws.proofs.lane.parts.Tables.{put_placed, gone_placed, lane_without}
use Rattle.cp_vat_pair_laws.proofs.lane.parts.Silent.{is_call, Silent}
use Rattle.cp_vat_pair_laws.proofs.lane.parts.Go.{SentFor, Went, failed_, delivered_, waits_, sent_}

-- what answers stand for, by the questions that give them
stands_same : (here there mid : State) (a : ℕ) → answer_forwarded (get mid.entries.questions a) ≡ answer_forwarded (get there.entries.questions a)
    → stands_for here mid a ≡ stands_for here there a
stands_same here there mid a same = ap (λ as_. flat_map (λ question. own_ticket (get here.entries.questions question)) as_) same

forwarded_same : (here there mid : State) → ((q : ℕ) → answer_forwarded (get mid.entries.questions q) ≡ answer_forwarded (get there.entries.questions q)) → (m : Message)
    → forwarded_for here mid m ≡ forwarded_for here there m
forwarded_same here there mid same (messages.Call c) = stands_same here there mid c.question_id (same c.question_id)
forwarded_same here there mid same m = refl

stands_as_same : (here there mid : State) → ((q : ℕ) → answer_forwarded (get mid.entries.questions q) ≡ answer_forwarded (get there.entries.questions q)) → (origin : Origin)
    → stands_as here mid origin ≡ stands_as here there origin
stands_as_same here there mid same (origins.Answer a) = stands_same here there mid a (same a)
stands_as_same here there mid same (origins.Own q) = refl

-- no Call is sent
none_forwarded : (here mid : State) (made : List ℕ) (ms : List Message) → list_any is_call ms ≡ false → AllByRecursion (λ m. of_lane made (forwarded_for here mid m) ≡ []) ms
none_forwarded here mid made [] none = tt
none_forwarded here mid made (m ∷ ms) none = (by m (or_first (is_call m) (list_any is_call ms) none), none_forwarded here mid made ms (or_second (is_call m) (list_any is_call ms) none))
  where
    by : (m : Message) → is_call m ≡ false → of_lane made (forwarded_for here mid m) ≡ []
    by (messages.Call c) not_ = absurd (true≢false not_)
    by m not_ = refl

-- A turn of a call that isn't of the lane. What is new under a question's number is none of the calls that the other end has, on the way or waiting.
pub record IsFreshThere (here : End) (q : ℕ) : Type 0 where
  pub on_way : list_any (opens q) here.inbox ≡ false
  pub held : (ticket : ℕ) (call : WaitingCall) → get here.vat.waiting.calls ticket ≡ Some call → call.origin ≡ origins.Answer q → ⊥

module _ (here there : End) (made : List ℕ) (call : WaitingCall) (is : get there.vat.waiting.calls call.ticket ≡ Some call)
    (none : of_lane made (waits_for here.vat call.origin) ≡ []) (fresh : (q : ℕ) → get there.vat.entries.questions q ≡ None → IsFreshThere here q)
    (own : (q : ℕ) → call.origin ≡ origins.Own q → answer_forwarded (get there.vat.entries.questions q) ≡ []) where
  abbrev left : State
  left = without_call there.vat call

  gone_list : of_lane made (flat_map (λ held. waits_for here.vat held.origin) (values left.waiting.calls)) ≡ waits here there made
  gone_list = sym (lane_without made (λ held. waits_for here.vat held.origin) (gone_placed there.vat.waiting.calls call.ticket call is) none)

  gone_calls : (ticket : ℕ) (held : WaitingCall) → get left.waiting.calls ticket ≡ Some held → get there.vat.waiting.calls ticket ≡ Some held
  gone_calls ticket held at = (gone_cases there.vat.waiting.calls call.ticket ticket held at).1

  -- it waits again
  abbrev again : Gate → WaitingCall
  again gate = record { ticket = call.ticket; origin = call.origin; request = call.request; gate = gate }

  again_list : (gate : Gate) → of_lane made (flat_map (λ held. waits_for here.vat held.origin) (values (insert left.waiting.calls call.ticket (again gate))))
      ≡ waits here there made
  again_list gate =
      lane_without made (λ held. waits_for here.vat held.origin)
      (put_placed left.waiting.calls call.ticket (again gate) (gone_at there.vat.waiting.calls call.ticket call.ticket true (is_itself call.ticket))) none
      ∙ gone_list

  again_calls : (gate : Gate) (ticket : ℕ) (held : WaitingCall) → get (insert left.waiting.calls call.ticket (again gate)) ticket ≡ Some held
      → of_lane made (waits_for here.vat held.origin) ≡ [] ⊎ (get there.vat.waiting.calls ticket ≡ Some held)
  again_calls gate ticket held at =
      elim (put_cases left.waiting.calls call.ticket ticket (again gate) held at) [
        | inl new ↦ inl (ap (λ (h : WaitingCall). of_lane made (waits_for here.vat h.origin)) (sym new.1) ∙ none)
        | inr old ↦ inr (gone_calls ticket held old.1)
      ]

  forward_not : (mid : State) (q : ℕ) → ((r : ℕ) → (q == r) ≡ false → get mid.entries.questions r ≡ get left.entries.questions r) → list_any (opens q) here.inbox ≡ false
      → (xs : List Message) → list_any (opens q) xs ≡ false
      → AllByRecursion (λ m. of_lane made (forwarded_for here.vat mid m) ≡ of_lane made (forwarded_for here.vat there.vat m)) xs
  forward_not mid q others unopened [] not_ = tt
  forward_not mid q others unopened (m ∷ ms) not_ = (
    by m (or_first (opens q m) (list_any (opens q) ms) not_),
    forward_not mid q others unopened ms (or_second (opens q m) (list_any (opens q) ms) not_),
  )
    where
      by : (m : Message) → opens q m ≡ false → of_lane made (forwarded_for here.vat mid m) ≡ of_lane made (forwarded_for here.vat there.vat m)
      by (messages.Call c) other =
          ap (of_lane made) (stands_same here.vat there.vat mid c.question_id (ap answer_forwarded (others c.question_id (other_number c.question_id q other))))
      by m other = refl

  held_not : (mid : State) (q : ℕ) → ((r : ℕ) → (q == r) ≡ false → get mid.entries.questions r ≡ get left.entries.questions r) → IsFreshThere here q
      → (ticket : ℕ) (held : WaitingCall) → get here.vat.waiting.calls ticket ≡ Some held → (origin : Origin) → held.origin ≡ origin
      → of_lane made (stands_as here.vat there.vat origin) ≡ [] → of_lane made (stands_as here.vat mid origin) ≡ []
  held_not mid q others new ticket held at (origins.Own r) is_ none_ = none_
  held_not mid q others new ticket held at (origins.Answer a) is_ none_ = by (q == a) refl
    where
      by : (b : Bool) → (q == a) ≡ b → of_lane made (stands_for here.vat mid a) ≡ []
      by true t = absurd (new.held ticket held at (is_ ∙ ap (λ x. origins.Answer x) (sym (is_equal q a t))))
      by false t = ap (of_lane made) (stands_same here.vat there.vat mid a (ap answer_forwarded (others a t))) ∙ none_

  -- the lane's tickets of the call that is sent
  sent_stands : (mid : State) (q a : ℕ) → answer_forwarded (get mid.entries.questions q) ≡ a ∷ [] → of_lane made (waits_for here.vat (origins.Answer a)) ≡ []
      → of_lane made (stands_for here.vat mid q) ≡ []
  sent_stands mid q a forwards none_ =
      ap (λ as_. of_lane made (flat_map (λ question. own_ticket (get here.vat.entries.questions question)) as_)) forwards
      ∙ ap (of_lane made) (append-nil (own_ticket (get here.vat.entries.questions a))) ∙ none_

  own_stands : (mid : State) (q : ℕ) → answer_forwarded (get mid.entries.questions q) ≡ [] → of_lane made (stands_for here.vat mid q) ≡ []
  own_stands mid q forwards = ap (λ as_. of_lane made (flat_map (λ question. own_ticket (get here.vat.entries.questions question)) as_)) forwards

  module _ (mid : State) (q : ℕ) (calls : mid.waiting.calls ≡ left.waiting.calls) (effects : List Effect) (m : Message) (sends : messages_sent effects ≡ m ∷ [])
      (it : forwarded_for here.vat mid m ≡ stands_for here.vat mid q) where
    sent_there_list : of_lane made (flat_map (λ held. waits_for here.vat held.origin) (values mid.waiting.calls)) ≡ waits here there made
    sent_there_list = ap (λ cs. of_lane made (flat_map (λ held. waits_for here.vat held.origin) (values cs))) calls ∙ gone_list

    sent_there_calls : (ticket : ℕ) (held : WaitingCall) → get mid.waiting.calls ticket ≡ Some held
        → of_lane made (waits_for here.vat held.origin) ≡ [] ⊎ (get there.vat.waiting.calls ticket ≡ Some held)
    sent_there_calls ticket held at = inr (gone_calls ticket held (sym (ap (λ cs. get cs ticket) calls) ∙ at))

    sent_there : (origin : Origin) → call.origin ≡ origin → SentFor origin left q mid → LevelThere here there made mid there.inbox (messages_sent effects)
    sent_there (origins.Own p) at for_ =
        let forwards = for_.1.forwards in
        let mine : answer_forwarded (get mid.entries.questions q) ≡ [] = forwards q ∙ ap (λ x. answer_forwarded (get there.vat.entries.questions x)) for_.0 ∙ own p at in
        record {
          waiting = sent_there_list;
          calls = sent_there_calls;
          forwards = every_of (λ x. of_lane made (forwarded_for here.vat mid x) ≡ of_lane made (forwarded_for here.vat there.vat x)) here.inbox
              (λ x. ap (of_lane made) (forwarded_same here.vat there.vat mid forwards x));
          held = λ ticket held at_ none_. ap (of_lane made) (stands_as_same here.vat there.vat mid forwards held.origin) ∙ none_;
          sends = rw (sends) (ap (of_lane made) it ∙ own_stands mid q mine, tt);
          taken = inl refl;
        }
    sent_there (origins.Answer a) at for_ =
        let new = fresh q for_.0 in
        let none_ : of_lane made (waits_for here.vat (origins.Answer a)) ≡ [] = rw at at none in
        record {
          waiting = sent_there_list;
          calls = sent_there_calls;
          forwards = forward_not mid q for_.3 new.on_way here.inbox new.on_way;
          held = λ ticket held at_ before. held_not mid q for_.3 new ticket held at_ held.origin refl before;
          sends = rw (sends) (ap (of_lane made) it ∙ sent_stands mid q a for_.2 none_, tt);
          taken = inl refl;
        }

  -- where nothing is sent for it
  quiet_there : (mid : State) (effects : List Effect) → Silent left effects mid → LevelThere here there made mid there.inbox (messages_sent effects)
  quiet_there mid effects silent =
      record {
        waiting = ap (λ cs. of_lane made (flat_map (λ held. waits_for here.vat held.origin) (values cs))) silent.calls ∙ gone_list;
        calls = λ ticket held at. inr (gone_calls ticket held (sym (ap (λ cs. get cs ticket) silent.calls) ∙ at));
        forwards = every_of (λ x. of_lane made (forwarded_for here.vat mid x) ≡ of_lane made (forwarded_for here.vat there.vat x)) here.inbox
            (λ x. ap (of_lane made) (forwarded_same here.vat there.vat mid silent.bearing.forwards x));
        held = λ ticket held at_ none_. ap (of_lane made) (stands_as_same here.vat there.vat mid silent.bearing.forwards held.origin) ∙ none_;
        sends = none_forwarded here.vat mid made (messages_sent effects) silent.no_call;
        taken = inl refl;
      }

  pub turn_there : (mid : State) (effects : List Effect) → Went (underway call) left effects mid → LevelThere here there made mid there.inbox (messages_sent effects)
  turn_there mid effects (failed_ silent) = quiet_there mid effects silent
  turn_there mid effects (delivered_ k same silent) = rw (same) (quiet_there mid [] silent)
  turn_there mid effects (waits_ gate same new) =
      rw
      (same, new)
      (record {
        waiting = again_list gate;
        calls = again_calls gate;
        forwards = every_of (λ x. of_lane made (forwarded_for here.vat (held_at left (underway call) gate) x) ≡ of_lane made (forwarded_for here.vat there.vat x)) here.inbox
            (λ x. ap (of_lane made) (forwarded_same here.vat there.vat (held_at left (underway call) gate) (λ q. refl) x));
        held = λ ticket held at_ none_. ap (of_lane made) (stands_as_same here.vat there.vat (held_at left (underway call) gate) (λ q. refl) held.origin) ∙ none_;
        sends = tt;
        taken = inl refl;
      })
  turn_there mid effects (sent_ q target table same calls for_) =
      sent_there mid q calls effects _ (ap messages_sent same) refl call.origin refl for_
