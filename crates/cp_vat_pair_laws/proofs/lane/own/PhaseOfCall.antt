-- How a lane's phase changes where its application makes a call on its reference.
use Rattle.std.specs.Prelude.{◌≡◌, ◌⊎◌, refl, ℕ, true, false, List, [], ◌∷◌, ◌++◌, Option, Some, None}
use Rattle.std.specs.List.{list_any, AllByRecursion}
use Rattle.std.specs.FinMap.{get}
use Rattle.std.proofs.Common.{inl, inr, ap, sym, ◌∙◌}
use Rattle.std.proofs.lemmas.List.{append_assoc, append-nil}
use Rattle.cp_messages.specs.declared.message.Message.{Message}
use Rattle.cp_refs.specs.declared.cap.Cap.{Cap}
use Rattle.cp_refs.specs.declared.cap.Cap.TheVariants as caps
use Rattle.cp_refs.specs.declared.call.WaitingCall.{WaitingCall}
use Rattle.cp_refs.specs.declared.route.Gate.{Gate}
use Rattle.cp_refs.specs.declared.route.Gate.TheVariants as gates
use Rattle.cp_vat_machine.specs.State.{State}
use Rattle.cp_vat_machine.specs.InUse.{waiting_calls}
use Rattle.cp_vat_machine.specs.Writing.{IsExport}
use Rattle.cp_vat_machine.specs.Calling.{on_wire, mark_of, reference_of}
use Rattle.cp_vat_machine.proofs.Basics.{all_front, all_back, all_both}
use Rattle.cp_vat_laws.proofs.Tables.{here_of, all_values}
use Rattle.cp_vat_pair_laws.specs.VatPair.{End, with_mail}
use Rattle.cp_vat_pair_laws.specs.Lane.{Reference, cap_of, Delivery, tickets_of}
use Rattle.cp_vat_pair_laws.specs.Naming.{is_loop, is_echo}
use Rattle.cp_vat_pair_laws.specs.Phases.{of_lane, sent_for, forwarded_for, waits_for, waits_as, back, waits, on_way, waits_here, back_in, sent_in, AllWait, AllWaitHere, LeadsBack, GoesTo, GoBackTo, HaveTarget, HasTarget, NoneHeld, AreDelivered, opens_place, told_by, IsYet, IsUnheld, IsMarkedIf, IsLocalOpen, IsWhole, Unopened, Unsettled, Told, Free, ComesBack, Marked, Embargoed, Echoed, LocalOpen, Phase, unopened, unsettled, told, free, embargoed, echoed, local_open, IsElsewhere, came_to_other, told_other, hosted_there, InLane}
use Rattle.cp_vat_pair_laws.proofs.lane.Lists.{lane_flat, lane_two, wait_none}
use Rattle.cp_vat_pair_laws.proofs.lane.Calm.{only_mail, only_last}
use Rattle.cp_vat_pair_laws.proofs.lane.own.Calm.{other_on}
use Rattle.cp_vat_pair_laws.proofs.lane.own.Phase.{tickets_both}

-- a reference on which a call was made is marked
marked_more : (made : List ℕ) (t : ℕ) (mark : Option (Option ℕ)) → mark ≡ Some None → IsMarkedIf (made ++ t ∷ []) mark
marked_more [] t mark is = is
marked_more (x ∷ made) t mark is = is

module _ (here there : End) (ref : Reference) (made : List ℕ) (t : ℕ) (mid : State) (ms : List Message) where
  abbrev more : List ℕ
  more = made ++ t ∷ []

  abbrev here_then : End
  here_then = record { vat = mid; inbox = here.inbox }

  abbrev there_then : End
  there_then = with_mail there ms

  -- The call that enters has a ticket of its own: what was under way is as before, its reference stays, and what is sent of the lane has its target.
  pub record IsMore : Type 0 where
    pub back_ : AllByRecursion (λ m. of_lane more (forwarded_for mid there.vat m) ≡ of_lane made (forwarded_for here.vat there.vat m)) here.inbox
    pub way_ : AllByRecursion (λ m. of_lane more (sent_for mid m) ≡ of_lane made (sent_for here.vat m)) there.inbox
    pub waits_ : (ticket : ℕ) (call : WaitingCall) → get there.vat.waiting.calls ticket ≡ Some call
        → of_lane more (waits_for mid call.origin) ≡ of_lane made (waits_for here.vat call.origin)
    pub held : NoneHeld here there made → NoneHeld here_then there more
    pub reference : reference_of mid.values (cap_of ref) ≡ reference_of here.vat.values (cap_of ref)
    pub exports : (e : ℕ) (cap : Cap) → IsExport here.vat e cap → IsExport mid e cap
    pub targets : AllByRecursion (λ m. of_lane more (sent_for mid m) ≡ [] ⊎ HasTarget ref m) ms

  module _ (h : IsMore) where
    -- the lists
    same_back : back here_then there_then more ≡ back here there made
    same_back = lane_two made more (forwarded_for here.vat there.vat) (forwarded_for mid there.vat) here.inbox h.back_

    same_waits : waits here_then there_then more ≡ waits here there made
    same_waits =
        lane_two made more (λ call. waits_for here.vat call.origin) (λ call. waits_for mid call.origin) (waiting_calls there.vat)
        (all_values (λ call. of_lane more (waits_for mid call.origin) ≡ of_lane made (waits_for here.vat call.origin)) there.vat.waiting.calls
        (λ ticket. here_of (λ call. of_lane more (waits_for mid call.origin) ≡ of_lane made (waits_for here.vat call.origin)) (get there.vat.waiting.calls ticket)
        (λ call is. h.waits_ ticket call is)))

    more_way : on_way here_then there_then more ≡ on_way here there made ++ sent_in mid more ms
    more_way =
        lane_flat more (sent_for mid) there.inbox ms ∙ ap (λ ys. ys ++ sent_in mid more ms) (lane_two made more (sent_for here.vat) (sent_for mid) there.inbox h.way_)

    waiting_there : (At : Gate → Type 0) → AllWait here there made At → AllWait here_then there_then more At
    waiting_there At all ticket call is = by (all ticket call is)
      where
        by : of_lane made (waits_for here.vat call.origin) ≡ [] ⊎ At call.gate → of_lane more (waits_for mid call.origin) ≡ [] ⊎ At call.gate
        by (inl none) = inl (h.waits_ ticket call is ∙ none)
        by (inr at) = inr at

    goes_on : (e : ℕ) → GoBackTo here there made e → GoBackTo here_then there_then more e
    goes_on e goes = each here.inbox h.back_ goes
      where
        each : (xs : List Message) → AllByRecursion (λ m. of_lane more (forwarded_for mid there.vat m) ≡ of_lane made (forwarded_for here.vat there.vat m)) xs
            → AllByRecursion (λ m. of_lane made (forwarded_for here.vat there.vat m) ≡ [] ⊎ GoesTo e m) xs
            → AllByRecursion (λ m. of_lane more (forwarded_for mid there.vat m) ≡ [] ⊎ GoesTo e m) xs
        each [] same goes = tt
        each (m ∷ xs) same (inl none, goes) = (inl (same.0 ∙ none), each xs same.1 goes)
        each (m ∷ xs) same (inr to, goes) = (inr to, each xs same.1 goes)

    targets_on : HaveTarget here there ref made → HaveTarget here_then there_then ref more
    targets_on all = all_both (λ m. of_lane more (sent_for mid m) ≡ [] ⊎ HasTarget ref m) there.inbox ms (each there.inbox h.way_ all) h.targets
      where
        each : (xs : List Message) → AllByRecursion (λ m. of_lane more (sent_for mid m) ≡ of_lane made (sent_for here.vat m)) xs
            → AllByRecursion (λ m. of_lane made (sent_for here.vat m) ≡ [] ⊎ HasTarget ref m) xs → AllByRecursion (λ m. of_lane more (sent_for mid m) ≡ [] ⊎ HasTarget ref m) xs
        each [] same all = tt
        each (m ∷ xs) same (inl none, all) = (inl (same.0 ∙ none), each xs same.1 all)
        each (m ∷ xs) same (inr to, all) = (inr to, each xs same.1 all)

    back_in_front : (before after : List Message) (m : Message) → here.inbox ≡ before ++ m ∷ after → back_in here.vat there.vat made before ≡ []
        → back_in mid there.vat more before ≡ []
    back_in_front before after m is none =
        lane_two made more (forwarded_for here.vat there.vat) (forwarded_for mid there.vat) before
        (all_front (λ m. of_lane more (forwarded_for mid there.vat m) ≡ of_lane made (forwarded_for here.vat there.vat m)) before (m ∷ after) (rw is at h.back_))
        ∙ none

    back_in_rest : (before after : List Message) (m : Message) → here.inbox ≡ before ++ m ∷ after → back_in here.vat there.vat made after ≡ []
        → back_in mid there.vat more after ≡ []
    back_in_rest before after m is none =
        let all = all_back (λ m. of_lane more (forwarded_for mid there.vat m) ≡ of_lane made (forwarded_for here.vat there.vat m)) before (m ∷ after) (rw is at h.back_) in
        lane_two made more (forwarded_for here.vat there.vat) (forwarded_for mid there.vat) after all.1 ∙ none

    comes_on : ComesBack here there ref made → ComesBack here_then there_then ref more
    comes_on c =
        record {
          object = c.object;
          number = c.number;
          came = h.reference ∙ c.came;
          is_export = h.exports c.number (caps.Object c.object) c.is_export;
          ends = c.ends;
          goes_back = goes_on c.number c.goes_back;
          no_waits = same_waits ∙ c.no_waits;
        }

    lane_on : (delivered ds : List Delivery) → IsWhole here_then there_then more (delivered ++ ds) → AreDelivered (reference_of mid.values (cap_of ref)) (delivered ++ ds)
        → Phase here_then there_then ref more → InLane here there ref made delivered → InLane here_then there_then ref more (delivered ++ ds)
    lane_on delivered ds whole are phase lane =
        record { whole = whole; targets = targets_on lane.targets; none_held = h.held lane.none_held; delivered_ = are; phase = phase }

    -- It is sent.
    module _ (open_ : reference_of here.vat.values (cap_of ref) ≡ on_wire) (sends : sent_in mid more ms ≡ t ∷ []) (none_here : waits_here here_then more ≡ [])
        (mark : mark_of mid (cap_of ref) ≡ Some None) (no_opening : list_any (opens_place ref) ms ≡ false) where
      whole_sent : (delivered : List Delivery) → waits_here here made ≡ [] → IsWhole here there made delivered → IsWhole here_then there_then more (delivered ++ [])
      whole_sent delivered was whole =
          rw (append-nil delivered)
          (ap (λ xs. xs ++ t ∷ []) whole
          ∙ joined (tickets_of delivered) (back here there made) (waits here there made) (on_way here there made) (waits_here here made) was
          ∙ rw (same_back, same_waits, more_way, sends, none_here) refl)
        where
          joined : (d b w y k : List ℕ) → k ≡ [] → (d ++ b ++ w ++ y ++ k) ++ t ∷ [] ≡ d ++ b ++ w ++ (y ++ t ∷ []) ++ []
          joined d b w y k none = rw (none, append-nil (d ++ b ++ w ++ y)) (append_assoc (d ++ b ++ w) y (t ∷ []) ∙ sym (append-nil (d ++ b ++ w ++ (y ++ t ∷ []))))

      same_delivered : (delivered : List Delivery) → AreDelivered (reference_of here.vat.values (cap_of ref)) delivered
          → AreDelivered (reference_of mid.values (cap_of ref)) (delivered ++ [])
      same_delivered delivered are = rw (h.reference, append-nil delivered) are

      pub sent_unopened : (p : Unopened here there ref made) (delivered : List Delivery) → InLane here there ref made delivered
          → InLane here_then there_then ref more (delivered ++ [])
      sent_unopened p delivered lane =
          lane_on delivered [] (whole_sent delivered p.none_here lane.whole) (same_delivered delivered lane.delivered_)
          (unopened
          (record {
            open_ = h.reference ∙ open_;
            before = p.before;
            opening = p.opening;
            after = p.after ++ ms;
            only = only_mail ms p.only no_opening;
            sent_after = lane_two made more (sent_for here.vat) (sent_for mid) (p.before ++ p.opening ∷ []) front ∙ p.sent_after;
            mark = marked_more made t (mark_of mid (cap_of ref)) mark;
            untold = p.untold;
            no_back = same_back ∙ p.no_back;
            no_waits = same_waits ∙ p.no_waits;
            none_here = none_here;
          })) lane
        where
          front : AllByRecursion (λ m. of_lane more (sent_for mid m) ≡ of_lane made (sent_for here.vat m)) (p.before ++ p.opening ∷ [])
          front =
              all_front (λ m. of_lane more (sent_for mid m) ≡ of_lane made (sent_for here.vat m)) (p.before ++ p.opening ∷ []) p.after
              (rw (p.only.all ∙ sym (append_assoc p.before (p.opening ∷ []) p.after)) at h.way_)

      pub sent_unsettled : (p : Unsettled here there ref made) (delivered : List Delivery) → InLane here there ref made delivered
          → InLane here_then there_then ref more (delivered ++ [])
      sent_unsettled p delivered lane =
          lane_on delivered [] (whole_sent delivered p.none_here lane.whole) (same_delivered delivered lane.delivered_)
          (unsettled
          (record {
            yet = inl (h.reference ∙ open_);
            gate = p.gate;
            open_ = p.open_;
            waiting = waiting_there (λ g. g ≡ p.gate) p.waiting;
            mark = marked_more made t (mark_of mid (cap_of ref)) mark;
            untold = p.untold;
            no_back = same_back ∙ p.no_back;
            none_here = none_here;
          })) lane

      pub sent_told : (p : Told here there ref made) (delivered : List Delivery) → InLane here there ref made delivered → InLane here_then there_then ref more (delivered ++ [])
      sent_told p delivered lane =
          lane_on delivered [] (whole_sent delivered p.none_here lane.whole) (same_delivered delivered lane.delivered_)
          (told
          (record {
            yet = inl (h.reference ∙ open_);
            object = p.object;
            number = p.number;
            is_export = h.exports p.number (caps.Object p.object) p.is_export;
            ends = p.ends;
            before = p.before;
            telling = p.telling;
            after = p.after;
            only = p.only;
            says = p.says;
            back_after = back_in_front p.before p.after p.telling p.only.all p.back_after;
            goes_back = goes_on p.number p.goes_back;
            waiting = waiting_there (LeadsBack there.vat p.number) p.waiting;
            mark = marked_more made t (mark_of mid (cap_of ref)) mark;
            none_here = none_here;
          })) lane

    -- It is delivered at once, to the object that its reference came to.
    pub delivered_free : (p : Free here there ref made) (d : Delivery) → d.ticket ≡ t → d.object ≡ p.object → ms ≡ [] → waits_here here made ≡ [] → waits_here here_then more ≡ []
        → mark_of mid (cap_of ref) ≡ None → (delivered : List Delivery) → InLane here there ref made delivered → InLane here_then there_then ref more (delivered ++ d ∷ [])
    delivered_free p d bears at silent was none_here mark delivered lane =
        lane_on delivered (d ∷ []) whole are
        (free
        (record {
          object = p.object;
          came = h.reference ∙ p.came;
          mark = mark;
          no_back = same_back ∙ p.no_back;
          no_waits = same_waits ∙ p.no_waits;
          no_way = no_way;
          waiting = λ ticket call is. inl (wait_none more (λ call. waits_as call call.origin) mid.waiting.calls none_here ticket call is);
        })) lane
      where
        no_way : on_way here_then there_then more ≡ []
        no_way = more_way ∙ rw (silent, p.no_way) refl

        joined : (ts b w y k : List ℕ) → b ≡ [] → w ≡ [] → y ≡ [] → k ≡ [] → (ts ++ b ++ w ++ y ++ k) ++ t ∷ [] ≡ (ts ++ t ∷ []) ++ [] ++ [] ++ [] ++ []
        joined ts b w y k be we ye ke = rw (be, we, ye, ke) (ap (λ z. z ++ t ∷ []) (nils ts) ∙ sym (nils (ts ++ t ∷ [])))
          where
            nils : (z : List ℕ) → z ++ [] ++ [] ++ [] ++ [] ≡ z
            nils z = append-nil (z ++ [] ++ [] ++ []) ∙ append-nil (z ++ [] ++ []) ∙ append-nil (z ++ []) ∙ append-nil z

        whole : IsWhole here_then there_then more (delivered ++ d ∷ [])
        whole =
            ap (λ xs. xs ++ t ∷ []) lane.whole
            ∙ joined (tickets_of delivered) (back here there made) (waits here there made) (on_way here there made) (waits_here here made) p.no_back p.no_waits p.no_way was
            ∙ rw (same_back, p.no_back, same_waits, p.no_waits, no_way, none_here, tickets_both delivered (d ∷ []), bears) refl

        are : AreDelivered (reference_of mid.values (cap_of ref)) (delivered ++ d ∷ [])
        are = rw (h.reference ∙ p.came) (all_both (λ delivery. delivery.object ≡ p.object) delivered (d ∷ []) (rw (p.came) at lane.delivered_) (at, tt))

    -- It waits here, after those that do.
    module _ (held_here : waits_here here_then more ≡ waits_here here made ++ t ∷ []) (no_calls : sent_in mid more ms ≡ []) where
      whole_held : (delivered : List Delivery) → IsWhole here there made delivered → IsWhole here_then there_then more (delivered ++ [])
      whole_held delivered whole =
          rw (append-nil delivered)
          (ap (λ xs. xs ++ t ∷ []) whole
          ∙ append_assoc (tickets_of delivered ++ back here there made ++ waits here there made ++ on_way here there made) (waits_here here made) (t ∷ [])
          ∙ rw (same_back, same_waits, same_way, held_here) refl)
        where
          same_way : on_way here_then there_then more ≡ on_way here there made
          same_way = more_way ∙ ap (λ ys. on_way here there made ++ ys) no_calls ∙ append-nil (on_way here there made)

      same_way : on_way here_then there_then more ≡ on_way here there made
      same_way = more_way ∙ ap (λ ys. on_way here there made ++ ys) no_calls ∙ append-nil (on_way here there made)

      delivered_same : (delivered : List Delivery) → AreDelivered (reference_of here.vat.values (cap_of ref)) delivered
          → AreDelivered (reference_of mid.values (cap_of ref)) (delivered ++ [])
      delivered_same delivered are = rw (h.reference, append-nil delivered) are

      -- the first one: a Disembargo goes out before it
      pub embargo_marked : (p : Marked here there ref made) (n : ℕ) (loop : Message) → ms ≡ loop ∷ [] → is_loop n loop ≡ true → list_any (is_loop n) there.inbox ≡ false
          → list_any (is_echo n) here.inbox ≡ false → mark_of mid (cap_of ref) ≡ Some (Some n) → AllWaitHere here_then more (λ g. g ≡ gates.Embargo n)
          → (delivered : List Delivery) → InLane here there ref made delivered → InLane here_then there_then ref more (delivered ++ [])
      embargo_marked p n loop sent it none no_echo mark waiting delivered lane =
          lane_on delivered [] (whole_held delivered lane.whole) (delivered_same delivered lane.delivered_)
          (embargoed
          (record {
            comes = comes_on p.comes;
            embargo = n;
            mark = mark;
            before = there.inbox;
            loop = loop;
            after = [];
            only = rw (sent) (only_last there.inbox (is_loop n) loop none it);
            sent_before = refl;
            no_echo = no_echo;
            waiting = waiting;
          })) lane

      module _ (silent : ms ≡ []) (mark : mark_of mid (cap_of ref) ≡ mark_of here.vat (cap_of ref)) where
        pub held_embargoed : (p : Embargoed here there ref made)
            → (AllWaitHere here made (λ g. g ≡ gates.Embargo p.embargo) → AllWaitHere here_then more (λ g. g ≡ gates.Embargo p.embargo)) → (delivered : List Delivery)
            → InLane here there ref made delivered → InLane here_then there_then ref more (delivered ++ [])
        held_embargoed p waiting delivered lane =
            lane_on delivered [] (whole_held delivered lane.whole) (delivered_same delivered lane.delivered_)
            (embargoed
            (record {
              comes = comes_on p.comes;
              embargo = p.embargo;
              mark = mark ∙ p.mark;
              before = p.before;
              loop = p.loop;
              after = p.after;
              only = rw (silent, append-nil there.inbox) p.only;
              sent_before = lane_two made more (sent_for here.vat) (sent_for mid) p.after rest.1 ∙ p.sent_before;
              no_echo = p.no_echo;
              waiting = waiting p.waiting;
            })) lane
          where
            rest : AllByRecursion (λ m. of_lane more (sent_for mid m) ≡ of_lane made (sent_for here.vat m)) (p.loop ∷ p.after)
            rest = all_back (λ m. of_lane more (sent_for mid m) ≡ of_lane made (sent_for here.vat m)) p.before (p.loop ∷ p.after) (rw (p.only.all) at h.way_)

        pub held_echoed : (p : Echoed here there ref made)
            → (AllWaitHere here made (λ g. g ≡ gates.Embargo p.embargo) → AllWaitHere here_then more (λ g. g ≡ gates.Embargo p.embargo)) → (delivered : List Delivery)
            → InLane here there ref made delivered → InLane here_then there_then ref more (delivered ++ [])
        held_echoed p waiting delivered lane =
            lane_on delivered [] (whole_held delivered lane.whole) (delivered_same delivered lane.delivered_)
            (echoed
            (record {
              comes = comes_on p.comes;
              embargo = p.embargo;
              mark = mark ∙ p.mark;
              before = p.before;
              echo = p.echo;
              after = p.after;
              only = p.only;
              back_before = back_in_rest p.before p.after p.echo p.only.all p.back_before;
              no_loop = rw (silent, append-nil there.inbox) p.no_loop;
              no_way = same_way ∙ p.no_way;
              waiting = waiting p.waiting;
            })) lane

        pub held_local : (p : LocalOpen here there ref made) → IsLocalOpen mid ref p.gate
            → (AllWaitHere here made (λ g. g ≡ p.gate) → AllWaitHere here_then more (λ g. g ≡ p.gate)) → (delivered : List Delivery)
            → InLane here there ref made delivered → InLane here_then there_then ref more (delivered ++ [])
        held_local p open_ waiting delivered lane =
            lane_on delivered [] (whole_held delivered lane.whole) (delivered_same delivered lane.delivered_)
            (local_open
            (record {
              gate = p.gate;
              open_ = open_;
              waiting = waiting p.waiting;
              no_back = same_back ∙ p.no_back;
              no_waits = same_waits ∙ p.no_waits;
              no_way = same_way ∙ p.no_way;
            })) lane

  -- A reference that is elsewhere stays so.
  pub still_elsewhere : reference_of mid.values (cap_of ref) ≡ reference_of here.vat.values (cap_of ref) → (IsUnheld here.vat ref made → ⊥)
      → ((e : ℕ) (cap : Cap) → IsExport here.vat e cap → IsExport mid e cap) → IsElsewhere here there ref made → IsElsewhere here_then there_then ref more
  still_elsewhere same known exports (came_to_other p) = came_to_other (p.0, same ∙ p.1, p.2)
  still_elsewhere same known exports (told_other p) =
      told_other
      (record {
        yet = yet_on p.yet;
        closed = p.closed;
        before = p.before;
        telling = p.telling;
        after = p.after;
        only = p.only;
        says = other_on here.vat mid exports (told_by ref p.telling) p.says;
      })
    where
      yet_on : IsYet here.vat ref made → IsYet mid ref more
      yet_on (inl open_) = inl (same ∙ open_)
      yet_on (inr unheld) = absurd (known unheld)
  still_elsewhere same known exports (hosted_there p) = hosted_there (record { yet = yet_on p.yet; hosted = p.hosted; untold = p.untold })
    where
      yet_on : IsYet here.vat ref made → IsYet mid ref more
      yet_on (inl open_) = inl (same ∙ open_)
      yet_on (inr unheld) = absurd (known unheld)
