-- How a lane's phase changes by what is done at the other end, one lemma for each change.
use Rattle.std.specs.Prelude.{◌≡◌, ◌⊎◌, refl, ℕ, true, false, List, [], ◌∷◌, ◌++◌, flat_map, Some, None}
use Rattle.std.specs.List.{list_any, AllByRecursion}
use Rattle.std.specs.FinMap.{get}
use Rattle.std.proofs.Common.{inl, inr, ap, sym, ◌∙◌}
use Rattle.std.proofs.lemmas.List.{append_assoc}
use Rattle.cp_messages.specs.declared.descriptor.Descriptor.TheVariants as descriptors
use Rattle.cp_messages.specs.declared.message.Message.{Message}
use Rattle.cp_refs.specs.declared.cap.Cap.TheVariants as caps
use Rattle.cp_refs.specs.declared.call.WaitingCall.{WaitingCall}
use Rattle.cp_refs.specs.declared.route.Gate.{Gate}
use Rattle.cp_refs.specs.declared.route.Gate.TheVariants as gates
use Rattle.cp_vat_machine.specs.State.{State}
use Rattle.cp_vat_machine.specs.InUse.{waiting_calls}
use Rattle.cp_vat_machine.specs.Writing.{IsExport}
use Rattle.cp_vat_machine.specs.Calling.{mark_of}
use Rattle.cp_vat_machine.proofs.Basics.{all_front, all_both}
use Rattle.cp_vat_pair_laws.specs.VatPair.{End, with_mail}
use Rattle.cp_vat_pair_laws.specs.Lane.{Reference, import_, cap_of, Delivery, tickets_of}
use Rattle.cp_vat_pair_laws.specs.Naming.{place_of, is_loop, is_echo}
use Rattle.cp_vat_pair_laws.specs.Phases.{of_lane, sent_for, forwarded_for, waits_for, waits_as, back, waits, on_way, waits_here, back_in, sent_in, AllWait, LeadsBack, GoesTo, GoBackTo, HaveTarget, HasTarget, NoneHeld, IsOnly, opens_place, tells, told_by, IsOpenPlace, IsClosedPlace, EndsAt, IsOther, IsWhole, Unopened, Unsettled, Told, ComesBack, Marked, Embargoed, Echoed, Phase, unsettled, told, marked, embargoed, ToldOther, HostedThere, InLane}
use Rattle.cp_vat_pair_laws.proofs.lane.Lists.{lane_flat, lane_cons, lane_same, lane_mail, none_lane, lane_unmade, none_wait, wait_none, lane_front, joined_back, joined_waits}
use Rattle.cp_vat_pair_laws.proofs.lane.Calm.{IsFront, any_mail, only_mail, only_taken, only_front, only_last, only_later}
use Rattle.cp_vat_pair_laws.proofs.lane.other.Calm.{LevelThere, level_back, level_waits, level_goes, level_whole, level_targets}

-- each goes back to this export where none does
pub none_goes : (here there : State) (made : List ℕ) (e : ℕ) (xs : List Message) → back_in here there made xs ≡ []
    → AllByRecursion (λ m. of_lane made (forwarded_for here there m) ≡ [] ⊎ GoesTo e m) xs
none_goes here there made e xs none = by xs (none_lane made (forwarded_for here there) xs none)
  where
    by : (ys : List Message) → AllByRecursion (λ m. of_lane made (forwarded_for here there m) ≡ []) ys
        → AllByRecursion (λ m. of_lane made (forwarded_for here there m) ≡ [] ⊎ GoesTo e m) ys
    by [] all = tt
    by (m ∷ ys) all = (inl all.0, by ys all.1)

module _ (here there : End) (ref : Reference) (made : List ℕ) (mid : State) (inbox ms : List Message) where
  abbrev here_then : End
  here_then = with_mail here ms

  abbrev there_then : End
  there_then = record { vat = mid; inbox = inbox }

  -- where no call of the lane moves
  module _ (level : LevelThere here there made mid inbox ms) where
    -- the same lane in another phase
    pub another_phase : (delivered : List Delivery) → InLane here there ref made delivered → Phase here_then there_then ref made → InLane here_then there_then ref made delivered
    another_phase delivered lane phase =
        record {
          whole = level_whole here there made mid inbox ms level delivered lane.whole;
          targets = level_targets here there made mid inbox ms level ref lane.targets;
          none_held = λ ticket call is. level.held ticket call is (lane.none_held ticket call is);
          delivered_ = lane.delivered_;
          phase = phase;
        }

    back_none : back here there made ≡ [] → back here_then there_then made ≡ []
    back_none none = level_back here there made mid inbox ms level ∙ none

    -- Its question is opened there: its place is open from now on.
    pub is_opened : (x : Message) (gate : Gate) → there.inbox ≡ x ∷ inbox → opens_place ref x ≡ true → IsOpenPlace mid ref gate → list_any (tells ref) ms ≡ false
        → Unopened here there ref made → Unsettled here_then there_then ref made
    is_opened x gate was opens_ open_ untold p =
        record {
          yet = inl p.open_;
          gate = gate;
          open_ = open_;
          waiting = waiting;
          mark = p.mark;
          untold = any_mail (tells ref) here.inbox ms p.untold untold;
          no_back = back_none p.no_back;
          none_here = p.none_here;
        }
      where
        waiting : AllWait here_then there_then made (λ g. g ≡ gate)
        waiting ticket call is = by (level.calls ticket call is)
          where
            by : of_lane made (waits_for here.vat call.origin) ≡ [] ⊎ (get there.vat.waiting.calls ticket ≡ Some call)
                → of_lane made (waits_for here.vat call.origin) ≡ [] ⊎ (call.gate ≡ gate)
            by (inl none) = inl none
            by (inr old) = inl (wait_none made (λ call. waits_for here.vat call.origin) there.vat.waiting.calls p.no_waits ticket call old)

    -- A promise is exported to the other end, or an object: so its import has a place there.
    module _ (i : ℕ) (is : ref ≡ import_ i) (unheld : get here.vat.values.imports i ≡ None) (unmade : made ≡ []) (untold : list_any (tells ref) (here.inbox ++ ms) ≡ false) where
      pub is_exported : (p : ℕ) → IsExport mid i (caps.Promise p) → get mid.values.promises p ≡ Some None → mark_of here.vat (cap_of ref) ≡ None
          → Unsettled here_then there_then ref made
      is_exported p export_ open_ unmarked =
          record {
            yet = rw (is) (inr (unheld, unmade));
            gate = gates.Promise p;
            open_ = rw (is) (p, export_, open_, refl);
            waiting = λ ticket call at. inl (rw (unmade) (lane_unmade (waits_for here.vat call.origin)));
            mark = rw (unmade) unmarked;
            untold = untold;
            no_back = rw (unmade) (lane_unmade (flat_map (forwarded_for here.vat mid) (here.inbox ++ ms)));
            none_here = rw (unmade) (lane_unmade (flat_map (λ call. waits_as call call.origin) (waiting_calls here.vat)));
          }

      pub is_hosted : (k : ℕ) → IsExport mid i (caps.Object k) → HostedThere here_then there_then ref made
      is_hosted k export_ = record { yet = rw (is) (inr (unheld, unmade)); hosted = rw (is) (k, export_); untold = untold }

    -- Its place comes back to an object of this end: it is told so, and the calls that wait there go back.
    module _ (before after : List Message) (telling : Message) (only : IsOnly ms (tells ref) before telling after) where
      pub is_told : (k e : ℕ) → IsExport here.vat e (caps.Object k) → told_by ref telling ≡ Some (descriptors.ReceiverHosted e) → EndsAt mid (place_of mid ref) e
          → (p : Unsettled here there ref made) → LeadsBack mid e p.gate → Told here_then there_then ref made
      is_told k e export_ says ends p leads =
          record {
            yet = p.yet;
            object = k;
            number = e;
            is_export = export_;
            ends = ends;
            before = here.inbox ++ before;
            telling = telling;
            after = after;
            only = only_later here.inbox p.untold only;
            says = says;
            back_after = lane_front made (forwarded_for here.vat mid) (here.inbox ++ before) (telling ∷ after) all;
            goes_back = none_goes here.vat mid made e (here.inbox ++ ms) (back_none p.no_back);
            waiting = level_waits here there made mid inbox ms level (λ g. g ≡ p.gate) (LeadsBack mid e) (λ g at. rw (at) leads) p.waiting;
            mark = p.mark;
            none_here = p.none_here;
          }
        where
          all : back_in here.vat mid made ((here.inbox ++ before) ++ telling ∷ after) ≡ []
          all = ap (back_in here.vat mid made) (append_assoc here.inbox before (telling ∷ after) ∙ ap (λ xs. here.inbox ++ xs) (sym only.all)) ∙ back_none p.no_back

      -- It comes to something else.
      pub is_other : IsClosedPlace mid ref → IsOther here.vat (told_by ref telling) → Unsettled here there ref made → ToldOther here_then there_then ref made
      is_other closed says p =
          record { yet = p.yet; closed = closed; before = here.inbox ++ before; telling = telling; after = after; only = only_later here.inbox p.untold only; says = says }

    -- Its Disembargo comes there and is echoed: no call is on the way there any more.
    pub is_echoed : (x echo : Message) → there.inbox ≡ x ∷ inbox → ms ≡ echo ∷ [] → ((e : ℕ) → EndsAt there.vat (place_of there.vat ref) e → EndsAt mid (place_of mid ref) e)
        → (p : Embargoed here there ref made) → is_loop p.embargo x ≡ true → is_echo p.embargo echo ≡ true → Echoed here_then there_then ref made
    is_echoed x echo was sent ends p loop_ echo_ =
        let front = only_front x inbox (is_loop p.embargo) p.before p.loop p.after (rw was at p.only) loop_ in
        record {
          comes =
              record {
                object = p.comes.object;
                number = p.comes.number;
                came = p.comes.came;
                is_export = p.comes.is_export;
                ends = ends p.comes.number p.comes.ends;
                goes_back = level_goes here there made mid inbox ms level p.comes.number p.comes.goes_back;
                no_waits = level.waiting ∙ p.comes.no_waits;
              };
          embargo = p.embargo;
          mark = p.mark;
          before = here.inbox;
          echo = echo;
          after = [];
          only = rw (sent) (only_last here.inbox (is_echo p.embargo) echo p.no_echo echo_);
          back_before = refl;
          no_loop = rw (← front.2) p.only.none_after;
          no_way = rw (← front.2) p.sent_before;
          waiting = p.waiting;
        }

  -- A call of the lane comes to its open place, and waits there.
  pub record WaitsThere (ts : List ℕ) (gate : Gate) : Type 0 where
    pub x : Message
    pub was : there.inbox ≡ x ∷ inbox
    pub bears : of_lane made (sent_for here.vat x) ≡ ts
    pub waiting : waits here there_then made ≡ waits here there made ++ ts
    pub calls : (ticket : ℕ) (call : WaitingCall) → get mid.waiting.calls ticket ≡ Some call
        → of_lane made (waits_for here.vat call.origin) ≡ [] ⊎ ((get there.vat.waiting.calls ticket ≡ Some call) ⊎ (call.gate ≡ gate))
    pub forwards : AllByRecursion (λ m. of_lane made (forwarded_for here.vat mid m) ≡ of_lane made (forwarded_for here.vat there.vat m)) here.inbox
    pub held : NoneHeld here there made → NoneHeld here_then there_then made
    pub sends : ms ≡ []
    pub open_ : IsOpenPlace mid ref gate

  module _ (ts : List ℕ) (p : Unsettled here there ref made) (moves : WaitsThere ts p.gate) where
    same_back : back here_then there_then made ≡ back here there made
    same_back =
        lane_mail made (forwarded_for here.vat there.vat) (forwarded_for here.vat mid) here.inbox ms moves.forwards (rw (moves.sends) tt)

    less_way : on_way here there made ≡ ts ++ on_way here_then there_then made
    less_way =
        ap (sent_in here.vat made) moves.was ∙ lane_cons made (sent_for here.vat) moves.x inbox ∙ ap (λ ys. ys ++ sent_in here.vat made inbox) moves.bears

    still_unsettled : Unsettled here_then there_then ref made
    still_unsettled =
        record {
          yet = p.yet;
          gate = p.gate;
          open_ = moves.open_;
          waiting = waiting;
          mark = p.mark;
          untold = any_mail (tells ref) here.inbox ms p.untold (rw (moves.sends) refl);
          no_back = same_back ∙ p.no_back;
          none_here = p.none_here;
        }
      where
        waiting : AllWait here_then there_then made (λ g. g ≡ p.gate)
        waiting ticket call is = by (moves.calls ticket call is)
          where
            by : of_lane made (waits_for here.vat call.origin) ≡ [] ⊎ ((get there.vat.waiting.calls ticket ≡ Some call) ⊎ (call.gate ≡ p.gate))
                → of_lane made (waits_for here.vat call.origin) ≡ [] ⊎ (call.gate ≡ p.gate)
            by (inl none) = inl none
            by (inr (inl old)) = p.waiting ticket call old
            by (inr (inr at)) = inr at

    pub waits_there : (delivered : List Delivery) → InLane here there ref made delivered → InLane here_then there_then ref made delivered
    waits_there delivered lane =
        record {
          whole = whole;
          targets = targets;
          none_held = moves.held lane.none_held;
          delivered_ = lane.delivered_;
          phase = unsettled still_unsettled;
        }
      where
        whole : IsWhole here_then there_then made delivered
        whole =
            lane.whole ∙ ap (λ ys. tickets_of delivered ++ back here there made ++ waits here there made ++ ys ++ waits_here here made) less_way
            ∙ joined_waits (tickets_of delivered) (back here there made) (waits here there made) ts (on_way here_then there_then made) (waits_here here made)
            ∙ ap (λ ys. tickets_of delivered ++ back here there made ++ ys ++ on_way here_then there_then made ++ waits_here here made) (sym moves.waiting)
            ∙ ap (λ ys. tickets_of delivered ++ ys ++ waits here_then there_then made ++ on_way here_then there_then made ++ waits_here here made) (sym same_back)

        targets : HaveTarget here_then there_then ref made
        targets = let all : AllByRecursion (λ m. of_lane made (sent_for here.vat m) ≡ [] ⊎ HasTarget ref m) (moves.x ∷ inbox) = rw (moves.was) at lane.targets in all.1

  -- A call of the lane comes there, or waits there no more, and goes back to the export at which its place ends.
  pub record GoesBack (ts : List ℕ) (e : ℕ) : Type 0 where
    pub taken : IsFront (λ x. ((n : ℕ) → is_loop n x ≡ false)) there.inbox inbox
    pub moved : waits here there made ++ on_way here there made ≡ ts ++ (waits here there_then made ++ on_way here there_then made)
    pub calls : (ticket : ℕ) (call : WaitingCall) → get mid.waiting.calls ticket ≡ Some call
        → of_lane made (waits_for here.vat call.origin) ≡ [] ⊎ (get there.vat.waiting.calls ticket ≡ Some call)
    pub forwards : AllByRecursion (λ m. of_lane made (forwarded_for here.vat mid m) ≡ of_lane made (forwarded_for here.vat there.vat m)) here.inbox
    pub held : NoneHeld here there made → NoneHeld here_then there_then made
    pub bears : back_in here.vat mid made ms ≡ ts
    pub goes_ : AllByRecursion (λ m. of_lane made (forwarded_for here.vat mid m) ≡ [] ⊎ GoesTo e m) ms
    pub ends : EndsAt there.vat (place_of there.vat ref) e → EndsAt mid (place_of mid ref) e
    pub leads : (gate : Gate) → LeadsBack there.vat e gate → LeadsBack mid e gate
    pub untold : list_any (tells ref) ms ≡ false
    pub no_echo : (n : ℕ) → list_any (is_echo n) ms ≡ false

  module _ (ts : List ℕ) (e : ℕ) (moves : GoesBack ts e) where
    more_back : back here_then there_then made ≡ back here there made ++ ts
    more_back =
        lane_flat made (forwarded_for here.vat mid) here.inbox ms
        ∙ ap (λ ys. ys ++ back_in here.vat mid made ms) (lane_same made (forwarded_for here.vat there.vat) (forwarded_for here.vat mid) here.inbox moves.forwards)
        ∙ ap (λ ys. back here there made ++ ys) moves.bears

    all_go : GoBackTo here there made e → GoBackTo here_then there_then made e
    all_go goes = all_both (λ m. of_lane made (forwarded_for here.vat mid m) ≡ [] ⊎ GoesTo e m) here.inbox ms (old here.inbox moves.forwards goes) moves.goes_
      where
        old : (xs : List Message) → AllByRecursion (λ m. of_lane made (forwarded_for here.vat mid m) ≡ of_lane made (forwarded_for here.vat there.vat m)) xs
            → AllByRecursion (λ m. of_lane made (forwarded_for here.vat there.vat m) ≡ [] ⊎ GoesTo e m) xs
            → AllByRecursion (λ m. of_lane made (forwarded_for here.vat mid m) ≡ [] ⊎ GoesTo e m) xs
        old [] same goes = tt
        old (m ∷ xs) same (inl none, goes) = (inl (same.0 ∙ none), old xs same.1 goes)
        old (m ∷ xs) same (inr to, goes) = (inr to, old xs same.1 goes)

    whole_back : (delivered : List Delivery) → IsWhole here there made delivered → IsWhole here_then there_then made delivered
    whole_back delivered whole =
        whole
        ∙ joined_back (tickets_of delivered) (back here there made) (waits here there made) (on_way here there made) (waits_here here made) ts
        (waits here_then there_then made) (on_way here_then there_then made) moves.moved
        ∙ ap (λ ys. tickets_of delivered ++ ys ++ waits here_then there_then made ++ on_way here_then there_then made ++ waits_here here made) (sym more_back)

    targets_back : HaveTarget here there ref made → HaveTarget here_then there_then ref made
    targets_back all = by moves.taken
      where
        by : IsFront (λ x. ((n : ℕ) → is_loop n x ≡ false)) there.inbox inbox → HaveTarget here_then there_then ref made
        by (inl same) = rw (same) all
        by (inr (x, was, apart)) =
            let every : AllByRecursion (λ m. of_lane made (sent_for here.vat m) ≡ [] ⊎ HasTarget ref m) (x ∷ inbox) = rw was at all in every.1

    lane_back_by : (delivered : List Delivery) → InLane here there ref made delivered → Phase here_then there_then ref made → InLane here_then there_then ref made delivered
    lane_back_by delivered lane phase =
        record {
          whole = whole_back delivered lane.whole;
          targets = targets_back lane.targets;
          none_held = moves.held lane.none_held;
          delivered_ = lane.delivered_;
          phase = phase;
        }

    before_same : (before after : List Message) (m : Message) → here.inbox ≡ before ++ m ∷ after → back_in here.vat there.vat made before ≡ []
        → back_in here.vat mid made before ≡ []
    before_same before after m is none =
        lane_same made (forwarded_for here.vat there.vat) (forwarded_for here.vat mid) before
        (all_front (λ m. of_lane made (forwarded_for here.vat mid m) ≡ of_lane made (forwarded_for here.vat there.vat m)) before (m ∷ after) (rw is at moves.forwards))
        ∙ none

    -- while it is told
    pub goes_told : (p : Told here there ref made) → p.number ≡ e → (delivered : List Delivery) → InLane here there ref made delivered
        → InLane here_then there_then ref made delivered
    goes_told p is delivered lane =
        lane_back_by delivered lane
        (told
        (record {
          yet = p.yet;
          object = p.object;
          number = e;
          is_export = rw (← is) p.is_export;
          ends = moves.ends (rw is at p.ends);
          before = p.before;
          telling = p.telling;
          after = p.after ++ ms;
          only = only_mail ms p.only moves.untold;
          says = rw (← is) p.says;
          back_after = before_same p.before p.after p.telling p.only.all p.back_after;
          goes_back = all_go (rw is at p.goes_back);
          waiting = waiting;
          mark = p.mark;
          none_here = p.none_here;
        }))
      where
        waiting : AllWait here_then there_then made (LeadsBack mid e)
        waiting ticket call at = by (moves.calls ticket call at)
          where
            old : of_lane made (waits_for here.vat call.origin) ≡ [] ⊎ LeadsBack there.vat p.number call.gate → of_lane made (waits_for here.vat call.origin) ≡ [] ⊎ LeadsBack mid e call.gate
            old (inl none) = inl none
            old (inr leads) = inr (moves.leads call.gate (rw is at leads))

            by : of_lane made (waits_for here.vat call.origin) ≡ [] ⊎ (get there.vat.waiting.calls ticket ≡ Some call)
                → of_lane made (waits_for here.vat call.origin) ≡ [] ⊎ LeadsBack mid e call.gate
            by (inl none) = inl none
            by (inr was) = old (p.waiting ticket call was)

    -- once it came back
    comes_back : (c : ComesBack here there ref made) → c.number ≡ e → ComesBack here_then there_then ref made
    comes_back c is =
        record {
          object = c.object;
          number = e;
          came = c.came;
          is_export = rw (← is) c.is_export;
          ends = moves.ends (rw is at c.ends);
          goes_back = all_go (rw is at c.goes_back);
          no_waits = waits_none;
        }
      where
        waits_none : waits here_then there_then made ≡ []
        waits_none =
            none_wait made (λ call. waits_for here.vat call.origin) mid.waiting.calls (λ ticket call at. by ticket call (moves.calls ticket call at))
          where
            by : (ticket : ℕ) (call : WaitingCall) → of_lane made (waits_for here.vat call.origin) ≡ [] ⊎ (get there.vat.waiting.calls ticket ≡ Some call)
                → of_lane made (waits_for here.vat call.origin) ≡ []
            by ticket call (inl none) = none
            by ticket call (inr was) = wait_none made (λ call. waits_for here.vat call.origin) there.vat.waiting.calls c.no_waits ticket call was

    pub goes_marked : (p : Marked here there ref made) → p.comes.number ≡ e → (delivered : List Delivery) → InLane here there ref made delivered
        → InLane here_then there_then ref made delivered
    goes_marked p is delivered lane = lane_back_by delivered lane (marked (record { comes = comes_back p.comes is; mark = p.mark; none_here = p.none_here }))

    pub goes_embargoed : (p : Embargoed here there ref made) → p.comes.number ≡ e → (delivered : List Delivery) → InLane here there ref made delivered
        → InLane here_then there_then ref made delivered
    goes_embargoed p is delivered lane = lane_back_by delivered lane (embargoed (by moves.taken))
      where
        with_front : (before : List Message) → IsOnly inbox (is_loop p.embargo) before p.loop p.after → Embargoed here_then there_then ref made
        with_front before only =
            record {
              comes = comes_back p.comes is;
              embargo = p.embargo;
              mark = p.mark;
              before = before;
              loop = p.loop;
              after = p.after;
              only = only;
              sent_before = p.sent_before;
              no_echo = any_mail (is_echo p.embargo) here.inbox ms p.no_echo (moves.no_echo p.embargo);
              waiting = p.waiting;
            }

        by : IsFront (λ x. ((n : ℕ) → is_loop n x ≡ false)) there.inbox inbox → Embargoed here_then there_then ref made
        by (inl same) = with_front p.before (rw (same) p.only)
        by (inr (x, was, apart)) =
            let left = only_taken x inbox (is_loop p.embargo) p.before p.loop p.after (rw was at p.only) (apart p.embargo) in with_front left.left left.only
