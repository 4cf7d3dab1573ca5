-- A part of an event at the other end that has nothing to do with a lane keeps it.
use Rattle.std.specs.Prelude.{◌≡◌, ◌⊎◌, ℕ, Bool, false, List, [], ◌∷◌, ◌++◌, flat_map, Some}
use Rattle.std.specs.List.{list_any, AllByRecursion}
use Rattle.std.specs.FinMap.{get}
use Rattle.std.proofs.Common.{inl, inr, ap, sym, ◌∙◌}
use Rattle.cp_messages.specs.declared.message.Message.{Message}
use Rattle.cp_refs.specs.declared.call.WaitingCall.{WaitingCall}
use Rattle.cp_refs.specs.declared.route.Gate.{Gate}
use Rattle.cp_vat_machine.specs.State.{State}
use Rattle.cp_vat_machine.specs.Calling.{mark_of}
use Rattle.cp_vat_machine.proofs.Basics.{all_front, all_back, all_both}
use Rattle.cp_vat_pair_laws.specs.VatPair.{End, with_mail}
use Rattle.cp_vat_pair_laws.specs.Lane.{Reference, cap_of, Delivery}
use Rattle.cp_vat_pair_laws.specs.Naming.{place_of, is_loop, is_echo}
use Rattle.cp_vat_pair_laws.specs.Phases.{of_lane, sent_for, forwarded_for, waits_for, stands_as, back, waits, on_way, back_in, sent_in, AllWait, LeadsBack, GoesTo, GoBackTo, HaveTarget, HasTarget, IsOnly, opens_place, tells, IsOpenPlace, IsClosedPlace, IsYet, EndsAt, IsHostedThere, IsWhole, Absent, Unopened, Unsettled, Told, ComesBack, Embargoed, Echoed, Phase, absent, unopened, unsettled, told, free, marked, embargoed, echoed, local_open, IsElsewhere, came_to_other, told_other, hosted_there, InLane, LaneHolds}
use Rattle.cp_vat_pair_laws.proofs.lane.Lists.{lane_cons, lane_same, lane_mail}
use Rattle.cp_vat_pair_laws.proofs.lane.Calm.{IsFront, any_mail, only_mail, only_taken, any_taken}

-- it takes no Call of the lane, no opening of its reference and no loop of its embargo
pub record IsApartThere (here : End) (ref : Reference) (made : List ℕ) (m : Message) : Type 0 where
  pub sent : of_lane made (sent_for here.vat m) ≡ []
  pub opens_ : opens_place ref m ≡ false
  pub loop : (n : ℕ) → mark_of here.vat (cap_of ref) ≡ Some (Some n) → is_loop n m ≡ false

-- No call of the lane moves there.
pub record LevelThere (here there : End) (made : List ℕ) (mid : State) (inbox ms : List Message) : Type 0 where
  pub waiting : waits here (record { vat = mid; inbox = inbox }) made ≡ waits here there made
  pub calls : (ticket : ℕ) (call : WaitingCall) → get mid.waiting.calls ticket ≡ Some call
      → of_lane made (waits_for here.vat call.origin) ≡ [] ⊎ (get there.vat.waiting.calls ticket ≡ Some call)
  pub forwards : AllByRecursion (λ m. of_lane made (forwarded_for here.vat mid m) ≡ of_lane made (forwarded_for here.vat there.vat m)) here.inbox
  pub held : (ticket : ℕ) (call : WaitingCall) → get here.vat.waiting.calls ticket ≡ Some call → of_lane made (stands_as here.vat there.vat call.origin) ≡ []
      → of_lane made (stands_as here.vat mid call.origin) ≡ []
  pub sends : AllByRecursion (λ m. of_lane made (forwarded_for here.vat mid m) ≡ []) ms
  pub taken : IsFront (λ m. of_lane made (sent_for here.vat m) ≡ []) there.inbox inbox

-- Its place stays as it is too, and what is sent has nothing to do with it.
pub record CalmThere (here there : End) (ref : Reference) (made : List ℕ) (mid : State) (inbox ms : List Message) : Type 0 where
  pub level : LevelThere here there made mid inbox ms
  pub open_ : IsYet here.vat ref made → (gate : Gate) → IsOpenPlace there.vat ref gate → IsOpenPlace mid ref gate
  pub ends : (e : ℕ) → EndsAt there.vat (place_of there.vat ref) e → EndsAt mid (place_of mid ref) e
  pub hosted : IsHostedThere there.vat ref → IsHostedThere mid ref
  pub leads : (e : ℕ) (gate : Gate) → LeadsBack there.vat e gate → LeadsBack mid e gate
  pub closed_ : IsClosedPlace there.vat ref → IsClosedPlace mid ref
  pub untold : IsYet here.vat ref made → list_any (tells ref) ms ≡ false
  pub no_echo : (n : ℕ) → mark_of here.vat (cap_of ref) ≡ Some (Some n) → list_any (is_echo n) ms ≡ false
  pub front : IsFront (IsApartThere here ref made) there.inbox inbox

module _ (here there : End) (made : List ℕ) (mid : State) (inbox ms : List Message) (level : LevelThere here there made mid inbox ms) where
  abbrev here_next : End
  here_next = with_mail here ms

  abbrev there_next : End
  there_next = record { vat = mid; inbox = inbox }

  -- the lists
  pub level_back : back here_next there_next made ≡ back here there made
  level_back = lane_mail made (forwarded_for here.vat there.vat) (forwarded_for here.vat mid) here.inbox ms level.forwards level.sends

  front_same : IsFront (λ m. of_lane made (sent_for here.vat m) ≡ []) there.inbox inbox → on_way here_next there_next made ≡ on_way here there made
  front_same (inl same) = ap (λ xs. of_lane made (flat_map (sent_for here.vat) xs)) same
  front_same (inr (m, is, apart)) =
      sym (ap (λ xs. of_lane made (flat_map (sent_for here.vat) xs)) is ∙ lane_cons made (sent_for here.vat) m inbox ∙ ap (λ ys. ys ++ of_lane made (flat_map (sent_for here.vat) inbox)) apart)

  pub level_way : on_way here_next there_next made ≡ on_way here there made
  level_way = front_same level.taken

  pub level_before : (before after : List Message) (m : Message) → here.inbox ≡ before ++ m ∷ after → back_in here.vat there.vat made before ≡ [] → back_in here.vat mid made before ≡ []
  level_before before after m is none =
      let all = all_front (λ m. of_lane made (forwarded_for here.vat mid m) ≡ of_lane made (forwarded_for here.vat there.vat m)) before (m ∷ after) (rw is at level.forwards) in
      lane_same made (forwarded_for here.vat there.vat) (forwarded_for here.vat mid) before all ∙ none

  pub level_after : (before after : List Message) (m : Message) → here.inbox ≡ before ++ m ∷ after → back_in here.vat there.vat made after ≡ []
      → back_in here.vat mid made (after ++ ms) ≡ []
  level_after before after m is none =
      let all = all_back (λ m. of_lane made (forwarded_for here.vat mid m) ≡ of_lane made (forwarded_for here.vat there.vat m)) before (m ∷ after) (rw is at level.forwards) in
      lane_mail made (forwarded_for here.vat there.vat) (forwarded_for here.vat mid) after ms all.1 level.sends ∙ none

  pub level_goes : (e : ℕ) → GoBackTo here there made e → GoBackTo here_next there_next made e
  level_goes e goes = all_both (λ m. of_lane made (forwarded_for here.vat mid m) ≡ [] ⊎ GoesTo e m) here.inbox ms (old here.inbox level.forwards goes) (new ms level.sends)
    where
      old : (xs : List Message) → AllByRecursion (λ m. of_lane made (forwarded_for here.vat mid m) ≡ of_lane made (forwarded_for here.vat there.vat m)) xs
          → AllByRecursion (λ m. of_lane made (forwarded_for here.vat there.vat m) ≡ [] ⊎ GoesTo e m) xs
          → AllByRecursion (λ m. of_lane made (forwarded_for here.vat mid m) ≡ [] ⊎ GoesTo e m) xs
      old [] same goes = tt
      old (m ∷ xs) same (inl none, goes) = (inl (same.0 ∙ none), old xs same.1 goes)
      old (m ∷ xs) same (inr to, goes) = (inr to, old xs same.1 goes)

      new : (xs : List Message) → AllByRecursion (λ m. of_lane made (forwarded_for here.vat mid m) ≡ []) xs
          → AllByRecursion (λ m. of_lane made (forwarded_for here.vat mid m) ≡ [] ⊎ GoesTo e m) xs
      new [] none = tt
      new (m ∷ xs) none = (inl none.0, new xs none.1)

  pub level_waits : (At Then : Gate → Type 0) → ((gate : Gate) → At gate → Then gate) → AllWait here there made At → AllWait here_next there_next made Then
  level_waits At Then on all ticket call is = by (level.calls ticket call is)
    where
      old : of_lane made (waits_for here.vat call.origin) ≡ [] ⊎ At call.gate → of_lane made (waits_for here.vat call.origin) ≡ [] ⊎ Then call.gate
      old (inl none) = inl none
      old (inr at) = inr (on call.gate at)

      by : of_lane made (waits_for here.vat call.origin) ≡ [] ⊎ (get there.vat.waiting.calls ticket ≡ Some call)
          → of_lane made (waits_for here.vat call.origin) ≡ [] ⊎ Then call.gate
      by (inl none) = inl none
      by (inr was) = old (all ticket call was)

  -- of the whole lane
  pub level_whole : (delivered : List Delivery) → IsWhole here there made delivered → IsWhole here_next there_next made delivered
  level_whole delivered whole = rw (level_back, level.waiting, level_way) whole

  pub level_targets : (ref : Reference) → HaveTarget here there ref made → HaveTarget here_next there_next ref made
  level_targets ref all = by level.taken
    where
      by : IsFront (λ m. of_lane made (sent_for here.vat m) ≡ []) there.inbox inbox → HaveTarget here_next there_next ref made
      by (inl same) = rw (same) all
      by (inr (m, was, apart)) =
          let there_all : AllByRecursion (λ m. of_lane made (sent_for here.vat m) ≡ [] ⊎ HasTarget ref m) (m ∷ inbox) = rw was at all in there_all.1

module _ (here there : End) (ref : Reference) (made : List ℕ) (mid : State) (inbox ms : List Message) (calm : CalmThere here there ref made mid inbox ms) where
  abbrev here_then : End
  here_then = with_mail here ms

  abbrev there_then : End
  there_then = record { vat = mid; inbox = inbox }

  back_same : back here_then there_then made ≡ back here there made
  back_same = level_back here there made mid inbox ms calm.level

  way_same : on_way here_then there_then made ≡ on_way here there made
  way_same = level_way here there made mid inbox ms calm.level

  back_before : (before after : List Message) (m : Message) → here.inbox ≡ before ++ m ∷ after → back_in here.vat there.vat made before ≡ [] → back_in here.vat mid made before ≡ []
  back_before = level_before here there made mid inbox ms calm.level

  back_after : (before after : List Message) (m : Message) → here.inbox ≡ before ++ m ∷ after → back_in here.vat there.vat made after ≡ []
      → back_in here.vat mid made (after ++ ms) ≡ []
  back_after = level_after here there made mid inbox ms calm.level

  goes_on : (e : ℕ) → GoBackTo here there made e → GoBackTo here_then there_then made e
  goes_on = level_goes here there made mid inbox ms calm.level

  waiting_on : (At Then : Gate → Type 0) → ((gate : Gate) → At gate → Then gate) → AllWait here there made At → AllWait here_then there_then made Then
  waiting_on = level_waits here there made mid inbox ms calm.level

  untold_on : IsYet here.vat ref made → list_any (tells ref) here.inbox ≡ false → list_any (tells ref) (here.inbox ++ ms) ≡ false
  untold_on yet none = any_mail (tells ref) here.inbox ms none (calm.untold yet)

  none_on : (is : Message → Bool) → ((m : Message) → IsApartThere here ref made m → is m ≡ false) → list_any is there.inbox ≡ false → list_any is inbox ≡ false
  none_on is apart none = by calm.front
    where
      by : IsFront (IsApartThere here ref made) there.inbox inbox → list_any is inbox ≡ false
      by (inl same) = rw (same) none
      by (inr (m, was, a)) = any_taken is m inbox (rw was at none)

  -- what comes back
  comes_on : ComesBack here there ref made → ComesBack here_then there_then ref made
  comes_on c =
      record {
        object = c.object;
        number = c.number;
        came = c.came;
        is_export = c.is_export;
        ends = calm.ends c.number c.ends;
        goes_back = goes_on c.number c.goes_back;
        no_waits = calm.level.waiting ∙ c.no_waits;
      }

  unopened_on : Unopened here there ref made → Unopened here_then there_then ref made
  unopened_on p = by calm.front
    where
      with_front : (before : List Message) → IsOnly inbox (opens_place ref) before p.opening p.after → sent_in here.vat made (before ++ p.opening ∷ []) ≡ []
          → Unopened here_then there_then ref made
      with_front before only none =
          record {
            open_ = p.open_;
            before = before;
            opening = p.opening;
            after = p.after;
            only = only;
            sent_after = none;
            mark = p.mark;
            untold = untold_on (inl p.open_) p.untold;
            no_back = back_same ∙ p.no_back;
            no_waits = calm.level.waiting ∙ p.no_waits;
            none_here = p.none_here;
          }

      by : IsFront (IsApartThere here ref made) there.inbox inbox → Unopened here_then there_then ref made
      by (inl same) = with_front p.before (rw (same) p.only) p.sent_after
      by (inr (m, was, apart)) =
          let taken = only_taken m inbox (opens_place ref) p.before p.opening p.after (rw was at p.only) apart.opens_ in
          let none : sent_in here.vat made ((m ∷ taken.left) ++ p.opening ∷ []) ≡ [] = rw taken.was at p.sent_after in
          with_front taken.left taken.only
          (sym (lane_cons made (sent_for here.vat) m (taken.left ++ p.opening ∷ []) ∙ ap (λ ys. ys ++ sent_in here.vat made (taken.left ++ p.opening ∷ [])) apart.sent) ∙ none)

  unsettled_on : Unsettled here there ref made → Unsettled here_then there_then ref made
  unsettled_on p =
      record {
        yet = p.yet;
        gate = p.gate;
        open_ = calm.open_ p.yet p.gate p.open_;
        waiting = waiting_on (λ g. g ≡ p.gate) (λ g. g ≡ p.gate) (λ g at. at) p.waiting;
        mark = p.mark;
        untold = untold_on p.yet p.untold;
        no_back = back_same ∙ p.no_back;
        none_here = p.none_here;
      }

  told_on : Told here there ref made → Told here_then there_then ref made
  told_on p =
      record {
        yet = p.yet;
        object = p.object;
        number = p.number;
        is_export = p.is_export;
        ends = calm.ends p.number p.ends;
        before = p.before;
        telling = p.telling;
        after = p.after ++ ms;
        only = only_mail ms p.only (calm.untold p.yet);
        says = p.says;
        back_after = back_before p.before p.after p.telling p.only.all p.back_after;
        goes_back = goes_on p.number p.goes_back;
        waiting = waiting_on (LeadsBack there.vat p.number) (LeadsBack mid p.number) (calm.leads p.number) p.waiting;
        mark = p.mark;
        none_here = p.none_here;
      }

  embargoed_on : Embargoed here there ref made → Embargoed here_then there_then ref made
  embargoed_on p = by calm.front
    where
      with_front : (before : List Message) → IsOnly inbox (is_loop p.embargo) before p.loop p.after → Embargoed here_then there_then ref made
      with_front before only =
          record {
            comes = comes_on p.comes;
            embargo = p.embargo;
            mark = p.mark;
            before = before;
            loop = p.loop;
            after = p.after;
            only = only;
            sent_before = p.sent_before;
            no_echo = any_mail (is_echo p.embargo) here.inbox ms p.no_echo (calm.no_echo p.embargo p.mark);
            waiting = p.waiting;
          }

      by : IsFront (IsApartThere here ref made) there.inbox inbox → Embargoed here_then there_then ref made
      by (inl same) = with_front p.before (rw (same) p.only)
      by (inr (m, was, apart)) =
          let taken = only_taken m inbox (is_loop p.embargo) p.before p.loop p.after (rw was at p.only) (apart.loop p.embargo p.mark) in
          with_front taken.left taken.only

  echoed_on : Echoed here there ref made → Echoed here_then there_then ref made
  echoed_on p =
      record {
        comes = comes_on p.comes;
        embargo = p.embargo;
        mark = p.mark;
        before = p.before;
        echo = p.echo;
        after = p.after ++ ms;
        only = only_mail ms p.only (calm.no_echo p.embargo p.mark);
        back_before = back_after p.before p.after p.echo p.only.all p.back_before;
        no_loop = none_on (is_loop p.embargo) (λ m apart. apart.loop p.embargo p.mark) p.no_loop;
        no_way = way_same ∙ p.no_way;
        waiting = p.waiting;
      }

  phase_on : Phase here there ref made → Phase here_then there_then ref made ⊎ Absent here there ref made
  phase_on (absent p) = inr p
  phase_on (unopened p) = inl (unopened (unopened_on p))
  phase_on (unsettled p) = inl (unsettled (unsettled_on p))
  phase_on (told p) = inl (told (told_on p))
  phase_on (free p) =
      inl
      (free
      (record {
        object = p.object;
        came = p.came;
        mark = p.mark;
        no_back = back_same ∙ p.no_back;
        no_waits = calm.level.waiting ∙ p.no_waits;
        no_way = way_same ∙ p.no_way;
        waiting = p.waiting;
      }))
  phase_on (marked p) = inl (marked (record { comes = comes_on p.comes; mark = p.mark; none_here = p.none_here }))
  phase_on (embargoed p) = inl (embargoed (embargoed_on p))
  phase_on (echoed p) = inl (echoed (echoed_on p))
  phase_on (local_open p) =
      inl
      (local_open
      (record {
        gate = p.gate;
        open_ = p.open_;
        waiting = p.waiting;
        no_back = back_same ∙ p.no_back;
        no_waits = calm.level.waiting ∙ p.no_waits;
        no_way = way_same ∙ p.no_way;
      }))

  in_lane_on : (delivered : List Delivery) → (Absent here there ref made → InLane here there ref made delivered → LaneHolds here_then there_then ref made delivered)
      → InLane here there ref made delivered → LaneHolds here_then there_then ref made delivered
  in_lane_on delivered on_absent lane = by (phase_on lane.phase)
    where
      with_phase : Phase here_then there_then ref made → InLane here_then there_then ref made delivered
      with_phase phase =
          record {
            whole = level_whole here there made mid inbox ms calm.level delivered lane.whole;
            targets = level_targets here there made mid inbox ms calm.level ref lane.targets;
            none_held = λ ticket call is. calm.level.held ticket call is (lane.none_held ticket call is);
            delivered_ = lane.delivered_;
            phase = phase;
          }

      by : Phase here_then there_then ref made ⊎ Absent here there ref made → LaneHolds here_then there_then ref made delivered
      by (inl phase) = inr (with_phase phase)
      by (inr p) = on_absent p lane

  elsewhere_on : IsElsewhere here there ref made → IsElsewhere here_then there_then ref made
  elsewhere_on (came_to_other p) = came_to_other p
  elsewhere_on (told_other p) =
      told_other (record { yet = p.yet; closed = calm.closed_ p.closed; before = p.before; telling = p.telling; after = p.after ++ ms; only = only_mail ms p.only (calm.untold p.yet); says = p.says })
  elsewhere_on (hosted_there p) = hosted_there (record { yet = p.yet; hosted = calm.hosted p.hosted; untold = untold_on p.yet p.untold })

  -- The lane holds on, where an absent reference does.
  pub calm_there : (delivered : List Delivery) → (Absent here there ref made → InLane here there ref made delivered → LaneHolds here_then there_then ref made delivered)
      → LaneHolds here there ref made delivered → LaneHolds here_then there_then ref made delivered
  calm_there delivered on_absent (inl elsewhere) = inl (elsewhere_on elsewhere)
  calm_there delivered on_absent (inr lane) = in_lane_on delivered on_absent lane
