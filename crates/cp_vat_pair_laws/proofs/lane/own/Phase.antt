-- How a lane's phase changes by what is done at its own end, where no call is made on its reference: one lemma for each change.
use Rattle.std.specs.Prelude.{◌≡◌, ◌⊎◌, refl, ℕ, true, false, List, [], ◌∷◌, ◌++◌, flat_map, Some, None}
use Rattle.std.specs.List.{AllByRecursion}
use Rattle.std.specs.FinMap.{get}
use Rattle.std.proofs.Common.{inl, inr, ap, sym, ◌∙◌}
use Rattle.std.proofs.lemmas.List.{append_assoc, append-nil}
use Rattle.cp_messages.specs.declared.message.Message.{Message}
use Rattle.cp_refs.specs.declared.cap.Cap.{Cap}
use Rattle.cp_refs.specs.declared.cap.Cap.TheVariants as caps
use Rattle.cp_refs.specs.declared.call.WaitingCall.{WaitingCall}
use Rattle.cp_refs.specs.declared.route.Gate.{Gate}
use Rattle.cp_refs.specs.declared.route.Gate.TheVariants as gates
use Rattle.cp_vat_machine.specs.State.{State}
use Rattle.cp_vat_machine.specs.InUse.{waiting_calls}
use Rattle.cp_vat_machine.specs.Writing.{IsExport}
use Rattle.cp_vat_machine.specs.Calling.{plain, came_to, mark_of, reference_of}
use Rattle.cp_vat_machine.proofs.Basics.{all_both}
use Rattle.cp_vat_pair_laws.specs.VatPair.{End, with_mail}
use Rattle.cp_vat_pair_laws.specs.Lane.{Reference, cap_of, CameTo, Delivery, tickets_of, own_ticket}
use Rattle.cp_vat_pair_laws.specs.Naming.{is_echo}
use Rattle.cp_vat_pair_laws.specs.Phases.{of_lane, sent_for, forwarded_for, waits_for, waits_as, back, waits, on_way, waits_here, back_in, sent_in, AllWaitHere, GaveObject, GoesTo, HaveTarget, HasTarget, NoneHeld, AreDelivered, tells, IsYet, IsMarkedIf, IsWhole, Told, Free, ComesBack, Marked, Embargoed, Echoed, LocalOpen, Phase, free, marked, embargoed, echoed, InLane}
use Rattle.cp_vat_pair_laws.proofs.lane.Lists.{lane_cons, lane_unmade}
use Rattle.cp_vat_pair_laws.proofs.lane.Calm.{only_taken, only_front, any_taken}
use Rattle.cp_vat_pair_laws.proofs.lane.OrderFollows.{unheld_plain, local_plain}
use Rattle.cp_vat_pair_laws.proofs.lane.own.Calm.{LevelHere, level_back, level_there, level_way, level_waits_here, level_goes, level_whole, level_targets, delivered_nothing, forwarded_same, sent_same, back_in_same, sent_in_same, waits_in_same}

-- Where it came to nothing, nothing was delivered.
pub yet_none : (s : State) (ref : Reference) (made : List ℕ) (delivered : List Delivery) → IsYet s ref made → AreDelivered (reference_of s.values (cap_of ref)) delivered
    → delivered ≡ []
yet_none s ref made delivered (inl open_) are = rw open_ at are
yet_none s ref made delivered (inr unheld) are = rw (unheld_plain s ref made unheld) at are

pub plain_none : (s : State) (ref : Reference) (delivered : List Delivery) → reference_of s.values (cap_of ref) ≡ plain → AreDelivered (reference_of s.values (cap_of ref)) delivered
    → delivered ≡ []
plain_none s ref delivered is are = rw is at are

pub tickets_both : (xs ys : List Delivery) → tickets_of (xs ++ ys) ≡ tickets_of xs ++ tickets_of ys
tickets_both [] ys = refl
tickets_both (x ∷ xs) ys = ap (λ zs. x.ticket ∷ zs) (tickets_both xs ys)

module _ (here there : End) (ref : Reference) (made : List ℕ) (mid : State) (inbox ms : List Message) where
  abbrev here_then : End
  here_then = record { vat = mid; inbox = inbox }

  abbrev there_then : End
  there_then = with_mail there ms

  -- where no call of the lane moves
  module _ (level : LevelHere here there made mid inbox ms) where
    -- the same lane in another phase
    pub another_phase : (delivered : List Delivery) → AreDelivered (reference_of mid.values (cap_of ref)) delivered → InLane here there ref made delivered
        → Phase here_then there_then ref made → InLane here_then there_then ref made delivered
    another_phase delivered are lane phase =
        record {
          whole = level_whole here there made mid inbox ms level delivered lane.whole;
          targets = level_targets here there made mid inbox ms level ref lane.targets;
          none_held = level.held lane.none_held;
          delivered_ = are;
          phase = phase;
        }

    -- The Return or the Resolve that tells its object comes: it is free, if no call was made on it, and else it is marked.
    module _ (x : Message) (was : here.inbox ≡ x ∷ inbox) (tell : tells ref x ≡ true) (p : Told here there ref made) (came : CameTo mid ref (caps.Object p.object))
        (mark : mark_of mid (cap_of ref) ≡ mark_of here.vat (cap_of ref)) (exports : (e : ℕ) (cap : Cap) → IsExport here.vat e cap → IsExport mid e cap)
        (no_waits : waits here there made ≡ []) where
      then_free : made ≡ [] → Free here_then there_then ref made
      then_free unmade =
          let unmarked : IsMarkedIf [] (mark_of here.vat (cap_of ref)) = rw unmade at p.mark in
          record {
            object = p.object;
            came = came;
            mark = mark ∙ unmarked;
            no_back = rw (unmade) (lane_unmade (flat_map (forwarded_for mid there.vat) inbox));
            no_waits = rw (unmade) (lane_unmade (flat_map (λ call. waits_for mid call.origin) (waiting_calls there.vat)));
            no_way = rw (unmade) (lane_unmade (flat_map (sent_for mid) (there.inbox ++ ms)));
            waiting = λ ticket call is. inl (rw (unmade) (lane_unmade (waits_as call call.origin)));
          }

      then_marked : (ticket : ℕ) (more : List ℕ) → made ≡ ticket ∷ more → Marked here_then there_then ref made
      then_marked ticket more some =
          let is_marked : IsMarkedIf (ticket ∷ more) (mark_of here.vat (cap_of ref)) = rw some at p.mark in
          record {
            comes =
                record {
                  object = p.object;
                  number = p.number;
                  came = came;
                  is_export = exports p.number (caps.Object p.object) p.is_export;
                  ends = p.ends;
                  goes_back = level_goes here there made mid inbox ms level p.number p.goes_back;
                  no_waits = level_there here there made mid inbox ms level ∙ no_waits;
                };
            mark = mark ∙ is_marked;
            none_here = level.waiting ∙ p.none_here;
          }

      then_phase : (m : List ℕ) → made ≡ m → Phase here_then there_then ref made
      then_phase [] is = free (then_free is)
      then_phase (ticket ∷ more) is = marked (then_marked ticket more is)

      pub tell_comes : (delivered : List Delivery) → InLane here there ref made delivered → InLane here_then there_then ref made delivered
      tell_comes delivered lane =
          another_phase delivered
          (rw (yet_none here.vat ref made delivered p.yet lane.delivered_) (delivered_nothing (reference_of mid.values (cap_of ref)))) lane (then_phase made refl)

    -- The echo of its Disembargo comes: its embargo ends, and the calls that wait there may go to its object.
    pub echo_comes : (x : Message) → here.inbox ≡ x ∷ inbox → (p : Echoed here there ref made)
        → is_echo p.embargo x ≡ true → CameTo mid ref (caps.Object p.comes.object) → mark_of mid (cap_of ref) ≡ None → GaveObject mid p.comes.object (gates.Embargo p.embargo)
        → ms ≡ [] → (delivered : List Delivery) → InLane here there ref made delivered → InLane here_then there_then ref made delivered
    echo_comes x was p echo_ came unmarked gave_ silent delivered lane =
        another_phase delivered (rw (came) at_object) lane
        (free
        (record {
          object = p.comes.object;
          came = came;
          mark = unmarked;
          no_back = back_in_same made here.vat mid level.tickets there.vat inbox ∙ ap (back_in here.vat there.vat made) (sym front.2) ∙ p.back_before;
          no_waits = level_there here there made mid inbox ms level ∙ p.comes.no_waits;
          no_way = level_way here there made mid inbox ms level ∙ p.no_way;
          waiting = level_waits_here here there made mid inbox ms level (λ g. g ≡ gates.Embargo p.embargo) (GaveObject mid p.comes.object) (λ g at. rw (at) gave_) p.waiting;
        }))
      where
        front : (p.before ≡ []) × (p.echo ≡ x) × (p.after ≡ inbox)
        front = only_front x inbox (is_echo p.embargo) p.before p.echo p.after (rw was at p.only) echo_

        at_object : AreDelivered (came_to (caps.Object p.comes.object)) delivered
        at_object = rw (p.comes.came) at lane.delivered_

    -- A local question is given: the calls that wait at its path may go to the object there.
    pub local_given : (p : LocalOpen here there ref made) (k : ℕ) → CameTo mid ref (caps.Object k) → mark_of mid (cap_of ref) ≡ None → GaveObject mid k p.gate
        → (delivered : List Delivery) → InLane here there ref made delivered → InLane here_then there_then ref made delivered
    local_given p k came unmarked gave_ delivered lane =
        another_phase delivered
        (rw (plain_none here.vat ref delivered (local_plain here.vat ref p.gate p.open_) lane.delivered_) (delivered_nothing (reference_of mid.values (cap_of ref)))) lane
        (free
        (record {
          object = k;
          came = came;
          mark = unmarked;
          no_back = level_back here there made mid inbox ms level ∙ p.no_back;
          no_waits = level_there here there made mid inbox ms level ∙ p.no_waits;
          no_way = level_way here there made mid inbox ms level ∙ p.no_way;
          waiting = level_waits_here here there made mid inbox ms level (λ g. g ≡ p.gate) (GaveObject mid k) (λ g at. rw (at) gave_) p.waiting;
        }))

  -- Calls of the lane are delivered, at its object.
  pub record Delivers (k : ℕ) (ds : List Delivery) : Type 0 where
    pub tickets : (q : ℕ) → of_lane made (own_ticket (get mid.entries.questions q)) ≡ of_lane made (own_ticket (get here.vat.entries.questions q))
    pub calls : (ticket : ℕ) (call : WaitingCall) → get mid.waiting.calls ticket ≡ Some call
        → of_lane made (waits_as call call.origin) ≡ [] ⊎ (get here.vat.waiting.calls ticket ≡ Some call)
    pub held : NoneHeld here there made → NoneHeld here_then there made
    pub silent : ms ≡ []
    pub at_object : AllByRecursion (λ delivery. delivery.object ≡ k) ds
    pub came : CameTo mid ref (caps.Object k)
    pub mark : mark_of mid (cap_of ref) ≡ mark_of here.vat (cap_of ref)

  module _ (k : ℕ) (ds : List Delivery) (d : Delivers k ds) where
    waits_there_same : waits here_then there_then made ≡ waits here there made
    waits_there_same = waits_in_same made here.vat mid d.tickets (waiting_calls there.vat)

    way_same : on_way here_then there_then made ≡ on_way here there made
    way_same =
        ap (λ xs. sent_in mid made (there.inbox ++ xs)) d.silent ∙ ap (sent_in mid made) (append-nil there.inbox)
        ∙ sent_in_same made here.vat mid d.tickets there.inbox

    all_at : (delivered : List Delivery) → AreDelivered (came_to (caps.Object k)) delivered → AreDelivered (reference_of mid.values (cap_of ref)) (delivered ++ ds)
    all_at delivered are = rw (d.came) (all_both (λ delivery. delivery.object ≡ k) delivered ds are d.at_object)

    targets_same : HaveTarget here there ref made → HaveTarget here_then there_then ref made
    targets_same all = rw (d.silent, append-nil there.inbox) (each there.inbox all)
      where
        each : (xs : List Message) → AllByRecursion (λ m. of_lane made (sent_for here.vat m) ≡ [] ⊎ HasTarget ref m) xs
            → AllByRecursion (λ m. of_lane made (sent_for mid m) ≡ [] ⊎ HasTarget ref m) xs
        each [] all = tt
        each (m ∷ xs) (inl none, all) = (inl (sent_same made here.vat mid d.tickets m ∙ none), each xs all)
        each (m ∷ xs) (inr to, all) = (inr to, each xs all)

    waiting_here : (At Then : Gate → Type 0) → ((gate : Gate) → At gate → Then gate) → AllWaitHere here made At → AllWaitHere here_then made Then
    waiting_here At Then on all ticket call is = by (d.calls ticket call is)
      where
        old : of_lane made (waits_as call call.origin) ≡ [] ⊎ At call.gate → of_lane made (waits_as call call.origin) ≡ [] ⊎ Then call.gate
        old (inl none) = inl none
        old (inr at) = inr (on call.gate at)

        by : of_lane made (waits_as call call.origin) ≡ [] ⊎ (get here.vat.waiting.calls ticket ≡ Some call) → of_lane made (waits_as call call.origin) ≡ [] ⊎ Then call.gate
        by (inl none) = inl none
        by (inr was) = old (all ticket call was)

    -- A waiting call of the lane goes to its object.
    pub goes_free : (p : Free here there ref made) → p.object ≡ k → inbox ≡ here.inbox → waits_here here made ≡ tickets_of ds ++ waits_here here_then made
        → ((gate : Gate) → GaveObject here.vat k gate → GaveObject mid k gate) → (delivered : List Delivery) → InLane here there ref made delivered
        → InLane here_then there_then ref made (delivered ++ ds)
    goes_free p is same moved gave_ delivered lane =
        record {
          whole = whole;
          targets = targets_same lane.targets;
          none_held = d.held lane.none_held;
          delivered_ = all_at delivered (rw (p.came, is) at lane.delivered_);
          phase =
              free
              (record {
                object = k;
                came = d.came;
                mark = d.mark ∙ p.mark;
                no_back = no_back;
                no_waits = waits_there_same ∙ p.no_waits;
                no_way = way_same ∙ p.no_way;
                waiting = waiting_here (GaveObject here.vat p.object) (GaveObject mid k) (λ g at. gave_ g (rw is at at)) p.waiting;
              });
        }
      where
        no_back : back here_then there_then made ≡ []
        no_back = ap (back_in mid there.vat made) same ∙ back_in_same made here.vat mid d.tickets there.vat here.inbox ∙ p.no_back

        nils : (t : List ℕ) → t ++ [] ++ [] ++ [] ≡ t
        nils t = append-nil (t ++ [] ++ []) ∙ append-nil (t ++ []) ∙ append-nil t

        joined : (t : List ℕ) (a b c : List ℕ) → a ≡ [] → b ≡ [] → c ≡ [] → (s r : List ℕ) → t ++ a ++ b ++ c ++ (s ++ r) ≡ (t ++ s) ++ a ++ b ++ c ++ r
        joined t a b c ae be ce s r = rw (ae, be, ce) (ap (λ z. z ++ (s ++ r)) (nils t) ∙ sym (append_assoc t s r) ∙ ap (λ z. z ++ r) (sym (nils (t ++ s))))

        whole : IsWhole here_then there_then made (delivered ++ ds)
        whole =
            lane.whole ∙ ap (λ ys. tickets_of delivered ++ back here there made ++ waits here there made ++ on_way here there made ++ ys) moved
            ∙ joined (tickets_of delivered) (back here there made) (waits here there made) (on_way here there made) p.no_back p.no_waits p.no_way (tickets_of ds)
            (waits_here here_then made)
            ∙ rw (p.no_back, no_back, p.no_waits, waits_there_same ∙ p.no_waits, p.no_way, way_same ∙ p.no_way, tickets_both delivered ds) refl

    -- A call of the lane that comes back is delivered.
    module _ (x : Message) (was : here.inbox ≡ x ∷ inbox) (bears : of_lane made (forwarded_for here.vat there.vat x) ≡ tickets_of ds)
        (same_here : waits_here here_then made ≡ waits_here here made) (exports : (e : ℕ) (cap : Cap) → IsExport here.vat e cap → IsExport mid e cap) where
      less_back : back here there made ≡ tickets_of ds ++ back here_then there_then made
      less_back =
          ap (back_in here.vat there.vat made) was ∙ lane_cons made (forwarded_for here.vat there.vat) x inbox ∙ ap (λ ys. ys ++ back_in here.vat there.vat made inbox) bears
          ∙ ap (λ ys. tickets_of ds ++ ys) (sym (back_in_same made here.vat mid d.tickets there.vat inbox))

      comes_on : (c : ComesBack here there ref made) → c.object ≡ k → ComesBack here_then there_then ref made
      comes_on c is =
          record {
            object = k;
            number = c.number;
            came = d.came;
            is_export = exports c.number (caps.Object k) (rw is at c.is_export);
            ends = c.ends;
            goes_back = goes inbox (rw was at c.goes_back).1;
            no_waits = waits_there_same ∙ c.no_waits;
          }
        where
          goes : (xs : List Message) → AllByRecursion (λ m. of_lane made (forwarded_for here.vat there.vat m) ≡ [] ⊎ GoesTo c.number m) xs
              → AllByRecursion (λ m. of_lane made (forwarded_for mid there.vat m) ≡ [] ⊎ GoesTo c.number m) xs
          goes [] all = tt
          goes (m ∷ xs) (inl none, all) = (inl (forwarded_same made here.vat mid d.tickets there.vat m ∙ none), goes xs all)
          goes (m ∷ xs) (inr to, all) = (inr to, goes xs all)

      back_by : (delivered : List Delivery) → AreDelivered (came_to (caps.Object k)) delivered → InLane here there ref made delivered → Phase here_then there_then ref made
          → InLane here_then there_then ref made (delivered ++ ds)
      back_by delivered are lane phase =
          record {
            whole = whole;
            targets = targets_same lane.targets;
            none_held = d.held lane.none_held;
            delivered_ = all_at delivered are;
            phase = phase;
          }
        where
          joined : (t s b w y h : List ℕ) → t ++ (s ++ b) ++ w ++ y ++ h ≡ (t ++ s) ++ b ++ w ++ y ++ h
          joined t s b w y h = ap (λ z. z ++ w ++ y ++ h) (sym (append_assoc t s b))

          whole : IsWhole here_then there_then made (delivered ++ ds)
          whole =
              lane.whole ∙ ap (λ ys. tickets_of delivered ++ ys ++ waits here there made ++ on_way here there made ++ waits_here here made) less_back
              ∙ joined (tickets_of delivered) (tickets_of ds) (back here_then there_then made) (waits here there made) (on_way here there made) (waits_here here made)
              ∙ rw (waits_there_same, way_same, same_here, tickets_both delivered ds) refl

      pub back_marked : (p : Marked here there ref made) → p.comes.object ≡ k → (delivered : List Delivery) → InLane here there ref made delivered
          → InLane here_then there_then ref made (delivered ++ ds)
      back_marked p is delivered lane =
          back_by delivered (rw (p.comes.came, is) at lane.delivered_) lane
          (marked (record { comes = comes_on p.comes is; mark = d.mark ∙ p.mark; none_here = same_here ∙ p.none_here }))

      pub back_embargoed : (p : Embargoed here there ref made) → p.comes.object ≡ k → (delivered : List Delivery) → InLane here there ref made delivered
          → InLane here_then there_then ref made (delivered ++ ds)
      back_embargoed p is delivered lane =
          back_by delivered (rw (p.comes.came, is) at lane.delivered_) lane
          (embargoed
          (record {
            comes = comes_on p.comes is;
            embargo = p.embargo;
            mark = d.mark ∙ p.mark;
            before = p.before;
            loop = p.loop;
            after = p.after;
            only = rw (d.silent, append-nil there.inbox) p.only;
            sent_before = sent_in_same made here.vat mid d.tickets p.after ∙ p.sent_before;
            no_echo = any_taken (is_echo p.embargo) x inbox (rw was at p.no_echo);
            waiting = waiting_here (λ g. g ≡ gates.Embargo p.embargo) (λ g. g ≡ gates.Embargo p.embargo) (λ g at. at) p.waiting;
          }))

      pub back_echoed : (p : Echoed here there ref made) → p.comes.object ≡ k → is_echo p.embargo x ≡ false → (delivered : List Delivery)
          → InLane here there ref made delivered → InLane here_then there_then ref made (delivered ++ ds)
      back_echoed p is other delivered lane =
          let left = only_taken x inbox (is_echo p.embargo) p.before p.echo p.after (rw was at p.only) other in
          back_by delivered (rw (p.comes.came, is) at lane.delivered_) lane
          (echoed
          (record {
            comes = comes_on p.comes is;
            embargo = p.embargo;
            mark = d.mark ∙ p.mark;
            before = left.left;
            echo = p.echo;
            after = p.after;
            only = left.only;
            back_before = back_in_same made here.vat mid d.tickets there.vat p.after ∙ p.back_before;
            no_loop = rw (d.silent, append-nil there.inbox) p.no_loop;
            no_way = way_same ∙ p.no_way;
            waiting = waiting_here (λ g. g ≡ gates.Embargo p.embargo) (λ g. g ≡ gates.Embargo p.embargo) (λ g at. at) p.waiting;
          }))
