-- A part of an event at its own end that has nothing to do with a lane keeps it.
use Rattle.std.specs.Prelude.{◌≡◌, ◌⊎◌, refl, ℕ, Bool, false, List, [], ◌∷◌, ◌++◌, flat_map, Option, Some, None}
use Rattle.std.specs.List.{list_any, AllByRecursion}
use Rattle.std.specs.FinMap.{get}
use Rattle.std.proofs.Common.{inl, inr, ap, sym, ◌∙◌}
use Rattle.cp_messages.specs.declared.message.Message.{Message}
use Rattle.cp_messages.specs.declared.message.Message.TheVariants as messages
use Rattle.cp_messages.specs.declared.descriptor.Descriptor.{Descriptor}
use Rattle.cp_messages.specs.declared.descriptor.Descriptor.TheVariants as descriptors
use Rattle.cp_refs.specs.declared.cap.Cap.{Cap}
use Rattle.cp_refs.specs.declared.cap.Cap.TheVariants as caps
use Rattle.cp_refs.specs.declared.call.WaitingCall.{WaitingCall}
use Rattle.cp_refs.specs.declared.call.Origin.{Origin}
use Rattle.cp_refs.specs.declared.call.Origin.TheVariants as origins
use Rattle.cp_refs.specs.declared.route.Gate.{Gate}
use Rattle.cp_refs.specs.declared.route.Gate.TheVariants as gates
use Rattle.cp_vat_machine.specs.State.{State}
use Rattle.cp_vat_machine.specs.InUse.{waiting_calls}
use Rattle.cp_vat_machine.specs.Writing.{IsExport}
use Rattle.cp_vat_machine.specs.Calling.{plain, on_wire, came_to, mark_of, reference_of}
use Rattle.cp_vat_machine.specs.Calling as calling
use Rattle.cp_vat_machine.proofs.Basics.{all_both}
use Rattle.cp_vat_laws.proofs.Tables.{every_of}
use Rattle.cp_vat_pair_laws.specs.VatPair.{End, with_mail}
use Rattle.cp_vat_pair_laws.specs.Lane.{Reference, cap_of, CameTo, Delivery, own_ticket, answer_forwarded, stands_for}
use Rattle.cp_vat_pair_laws.specs.Naming.{is_loop, is_echo}
use Rattle.cp_vat_pair_laws.specs.Phases.{of_lane, sent_for, forwarded_for, waits_for, waits_as, back, waits, on_way, waits_here, back_in, sent_in, AllWait, AllWaitHere, LeadsBack, GaveObject, GoesTo, GoBackTo, HaveTarget, HasTarget, NoneHeld, AreDelivered, IsOnly, opens_place, tells, told_by, IsYet, IsLocalOpen, IsOther, IsWhole, Absent, Unopened, Unsettled, Told, ComesBack, Embargoed, Echoed, Phase, absent, unopened, unsettled, told, free, marked, embargoed, echoed, local_open, IsElsewhere, came_to_other, told_other, hosted_there, InLane, LaneHolds}
use Rattle.cp_vat_pair_laws.proofs.lane.Lists.{lane_cons, lane_same, lane_mail}
use Rattle.cp_vat_pair_laws.proofs.lane.Calm.{IsFront, any_mail, only_mail, only_taken, any_taken}

-- it takes no Call of the lane that comes back, nothing that tells of its reference and no echo of its embargo
pub record IsApartHere (here there : End) (ref : Reference) (made : List ℕ) (m : Message) : Type 0 where
  pub back_ : of_lane made (forwarded_for here.vat there.vat m) ≡ []
  pub tell : tells ref m ≡ false
  pub echo : (n : ℕ) → mark_of here.vat (cap_of ref) ≡ Some (Some n) → is_echo n m ≡ false

-- No call of the lane moves here.
pub record LevelHere (here there : End) (made : List ℕ) (mid : State) (inbox ms : List Message) : Type 0 where
  pub tickets : (q : ℕ) → of_lane made (own_ticket (get mid.entries.questions q)) ≡ of_lane made (own_ticket (get here.vat.entries.questions q))
  pub waiting : waits_here (record { vat = mid; inbox = inbox }) made ≡ waits_here here made
  pub calls : (ticket : ℕ) (call : WaitingCall) → get mid.waiting.calls ticket ≡ Some call
      → of_lane made (waits_as call call.origin) ≡ [] ⊎ (get here.vat.waiting.calls ticket ≡ Some call)
  pub held : NoneHeld here there made → NoneHeld (record { vat = mid; inbox = inbox }) there made
  pub sends : AllByRecursion (λ m. of_lane made (sent_for mid m) ≡ []) ms
  pub taken : IsFront (λ m. of_lane made (forwarded_for here.vat there.vat m) ≡ []) here.inbox inbox

-- Its reference stays as it is too, and what is sent has nothing to do with it.
pub record CalmHere (here there : End) (ref : Reference) (made : List ℕ) (mid : State) (inbox ms : List Message) : Type 0 where
  pub level : LevelHere here there made mid inbox ms
  pub open_ : reference_of here.vat.values (cap_of ref) ≡ on_wire → reference_of mid.values (cap_of ref) ≡ on_wire
  pub yet : IsYet here.vat ref made → IsYet mid ref made
  pub came : (value : Cap) → CameTo here.vat ref value → CameTo mid ref value
  pub local_ : (gate : Gate) → IsLocalOpen here.vat ref gate → IsLocalOpen mid ref gate
  pub mark : mark_of mid (cap_of ref) ≡ mark_of here.vat (cap_of ref)
  pub exports : (e : ℕ) (cap : Cap) → IsExport here.vat e cap → IsExport mid e cap
  pub gave_ : (k : ℕ) → AllWaitHere here made (GaveObject here.vat k) → AllWaitHere (record { vat = mid; inbox = inbox }) made (GaveObject mid k)
  pub unopened_ : reference_of here.vat.values (cap_of ref) ≡ on_wire → list_any (opens_place ref) ms ≡ false
  pub no_loop : (n : ℕ) → mark_of here.vat (cap_of ref) ≡ Some (Some n) → list_any (is_loop n) ms ≡ false
  pub front : IsFront (IsApartHere here there ref made) here.inbox inbox

-- none delivered
pub delivered_nothing : (r : calling.Standing) → AreDelivered r []
delivered_nothing plain = refl
delivered_nothing on_wire = refl
delivered_nothing (came_to caps.None) = refl
delivered_nothing (came_to (caps.Object k)) = tt
delivered_nothing (came_to (caps.Promise p)) = refl
delivered_nothing (came_to (caps.Import i)) = refl
delivered_nothing (came_to (caps.Pipelined q path)) = refl
delivered_nothing (came_to (caps.Broken x)) = refl

-- where the tickets of questions are as many of the lane
module _ (made : List ℕ) (old mid : State)
    (tickets : (q : ℕ) → of_lane made (own_ticket (get mid.entries.questions q)) ≡ of_lane made (own_ticket (get old.entries.questions q))) where
  pub stands_same : (there : State) (a : ℕ) → of_lane made (stands_for mid there a) ≡ of_lane made (stands_for old there a)
  stands_same there a =
      lane_same made (λ question. own_ticket (get old.entries.questions question)) (λ question. own_ticket (get mid.entries.questions question))
      (answer_forwarded (get there.entries.questions a))
      (every_of (λ question. of_lane made (own_ticket (get mid.entries.questions question)) ≡ of_lane made (own_ticket (get old.entries.questions question)))
      (answer_forwarded (get there.entries.questions a)) tickets)

  pub forwarded_same : (there : State) (m : Message) → of_lane made (forwarded_for mid there m) ≡ of_lane made (forwarded_for old there m)
  forwarded_same there (messages.Call c) = stands_same there c.question_id
  forwarded_same there (messages.Unimplemented t) = refl
  forwarded_same there (messages.Abort x) = refl
  forwarded_same there (messages.Return r) = refl
  forwarded_same there (messages.Finish f) = refl
  forwarded_same there (messages.Resolve r) = refl
  forwarded_same there (messages.Release r) = refl
  forwarded_same there (messages.Bootstrap b) = refl
  forwarded_same there (messages.Disembargo d) = refl
  forwarded_same there (messages.Other which body) = refl

  pub sent_same : (m : Message) → of_lane made (sent_for mid m) ≡ of_lane made (sent_for old m)
  sent_same (messages.Call c) = tickets c.question_id
  sent_same (messages.Unimplemented t) = refl
  sent_same (messages.Abort x) = refl
  sent_same (messages.Return r) = refl
  sent_same (messages.Finish f) = refl
  sent_same (messages.Resolve r) = refl
  sent_same (messages.Release r) = refl
  sent_same (messages.Bootstrap b) = refl
  sent_same (messages.Disembargo d) = refl
  sent_same (messages.Other which body) = refl

  pub waits_same : (origin : Origin) → of_lane made (waits_for mid origin) ≡ of_lane made (waits_for old origin)
  waits_same (origins.Answer a) = tickets a
  waits_same (origins.Own q) = refl

  pub back_in_same : (there : State) (xs : List Message) → back_in mid there made xs ≡ back_in old there made xs
  back_in_same there xs =
      lane_same made (forwarded_for old there) (forwarded_for mid there) xs
      (every_of (λ m. of_lane made (forwarded_for mid there m) ≡ of_lane made (forwarded_for old there m)) xs (forwarded_same there))

  pub sent_in_same : (xs : List Message) → sent_in mid made xs ≡ sent_in old made xs
  sent_in_same xs = lane_same made (sent_for old) (sent_for mid) xs (every_of (λ m. of_lane made (sent_for mid m) ≡ of_lane made (sent_for old m)) xs sent_same)

  pub all_sent_same : (xs : List Message) → AllByRecursion (λ m. of_lane made (sent_for mid m) ≡ of_lane made (sent_for old m)) xs
  all_sent_same xs = every_of (λ m. of_lane made (sent_for mid m) ≡ of_lane made (sent_for old m)) xs sent_same

  pub waits_in_same : (calls : List WaitingCall) → of_lane made (flat_map (λ call. waits_for mid call.origin) calls) ≡ of_lane made (flat_map (λ call. waits_for old call.origin) calls)
  waits_in_same calls =
      lane_same made (λ call. waits_for old call.origin) (λ call. waits_for mid call.origin) calls
      (every_of (λ call. of_lane made (waits_for mid call.origin) ≡ of_lane made (waits_for old call.origin)) calls (λ call. waits_same call.origin))

pub other_on : (old mid : State) → ((e : ℕ) (cap : Cap) → IsExport old e cap → IsExport mid e cap) → (d : Option Descriptor) → IsOther old d → IsOther mid d
other_on old mid exports None other = tt
other_on old mid exports (Some descriptors.None) other = tt
other_on old mid exports (Some (descriptors.SenderHosted i)) other = tt
other_on old mid exports (Some (descriptors.SenderPromise i)) other = tt
other_on old mid exports (Some (descriptors.ReceiverHosted e)) other = (other.0, exports e other.0 other.1, other.2)
other_on old mid exports (Some (descriptors.ReceiverAnswer a)) other = tt
other_on old mid exports (Some (descriptors.ThirdPartyHosted t)) other = tt
other_on old mid exports (Some (descriptors.Unknown n)) other = tt

module _ (here there : End) (made : List ℕ) (mid : State) (inbox ms : List Message) (level : LevelHere here there made mid inbox ms) where
  abbrev here_next : End
  here_next = record { vat = mid; inbox = inbox }

  abbrev there_next : End
  there_next = with_mail there ms

  -- the lists
  front_same : IsFront (λ m. of_lane made (forwarded_for here.vat there.vat m) ≡ []) here.inbox inbox → back_in here.vat there.vat made inbox ≡ back here there made
  front_same (inl same) = ap (back_in here.vat there.vat made) same
  front_same (inr (m, is, apart)) =
      sym (ap (back_in here.vat there.vat made) is ∙ lane_cons made (forwarded_for here.vat there.vat) m inbox ∙ ap (λ ys. ys ++ back_in here.vat there.vat made inbox) apart)

  pub level_back : back here_next there_next made ≡ back here there made
  level_back = back_in_same made here.vat mid level.tickets there.vat inbox ∙ front_same level.taken

  pub level_there : waits here_next there_next made ≡ waits here there made
  level_there = waits_in_same made here.vat mid level.tickets (waiting_calls there.vat)

  pub level_way : on_way here_next there_next made ≡ on_way here there made
  level_way = lane_mail made (sent_for here.vat) (sent_for mid) there.inbox ms (all_sent_same made here.vat mid level.tickets there.inbox) level.sends

  pub level_sent : (xs : List Message) → sent_in here.vat made xs ≡ [] → sent_in mid made (xs ++ ms) ≡ []
  level_sent xs none = lane_mail made (sent_for here.vat) (sent_for mid) xs ms (all_sent_same made here.vat mid level.tickets xs) level.sends ∙ none

  pub level_goes : (e : ℕ) → GoBackTo here there made e → GoBackTo here_next there_next made e
  level_goes e goes = by level.taken
    where
      each : (xs : List Message) → AllByRecursion (λ m. of_lane made (forwarded_for here.vat there.vat m) ≡ [] ⊎ GoesTo e m) xs
          → AllByRecursion (λ m. of_lane made (forwarded_for mid there.vat m) ≡ [] ⊎ GoesTo e m) xs
      each [] goes = tt
      each (m ∷ xs) (inl none, goes) = (inl (forwarded_same made here.vat mid level.tickets there.vat m ∙ none), each xs goes)
      each (m ∷ xs) (inr to, goes) = (inr to, each xs goes)

      by : IsFront (λ m. of_lane made (forwarded_for here.vat there.vat m) ≡ []) here.inbox inbox → GoBackTo here_next there_next made e
      by (inl same) = each inbox (rw (same) goes)
      by (inr (m, was, apart)) =
          let all : AllByRecursion (λ m. of_lane made (forwarded_for here.vat there.vat m) ≡ [] ⊎ GoesTo e m) (m ∷ inbox) = rw was at goes in each inbox all.1

  pub level_waits : (At : Gate → Type 0) → AllWait here there made At → AllWait here_next there_next made At
  level_waits At all ticket call is = by (all ticket call is)
    where
      by : of_lane made (waits_for here.vat call.origin) ≡ [] ⊎ At call.gate → of_lane made (waits_for mid call.origin) ≡ [] ⊎ At call.gate
      by (inl none) = inl (waits_same made here.vat mid level.tickets call.origin ∙ none)
      by (inr at) = inr at

  pub level_waits_here : (At Then : Gate → Type 0) → ((gate : Gate) → At gate → Then gate) → AllWaitHere here made At → AllWaitHere here_next made Then
  level_waits_here At Then on all ticket call is = by (level.calls ticket call is)
    where
      old : of_lane made (waits_as call call.origin) ≡ [] ⊎ At call.gate → of_lane made (waits_as call call.origin) ≡ [] ⊎ Then call.gate
      old (inl none) = inl none
      old (inr at) = inr (on call.gate at)

      by : of_lane made (waits_as call call.origin) ≡ [] ⊎ (get here.vat.waiting.calls ticket ≡ Some call) → of_lane made (waits_as call call.origin) ≡ [] ⊎ Then call.gate
      by (inl none) = inl none
      by (inr was) = old (all ticket call was)

  -- of the whole lane
  pub level_whole : (delivered : List Delivery) → IsWhole here there made delivered → IsWhole here_next there_next made delivered
  level_whole delivered whole = rw (level_back, level_there, level_way, level.waiting) whole

  pub level_targets : (ref : Reference) → HaveTarget here there ref made → HaveTarget here_next there_next ref made
  level_targets ref all =
      all_both (λ m. of_lane made (sent_for mid m) ≡ [] ⊎ HasTarget ref m) there.inbox ms (old there.inbox all) (new ms level.sends)
    where
      old : (xs : List Message) → AllByRecursion (λ m. of_lane made (sent_for here.vat m) ≡ [] ⊎ HasTarget ref m) xs
          → AllByRecursion (λ m. of_lane made (sent_for mid m) ≡ [] ⊎ HasTarget ref m) xs
      old [] all = tt
      old (m ∷ xs) (inl none, all) = (inl (sent_same made here.vat mid level.tickets m ∙ none), old xs all)
      old (m ∷ xs) (inr to, all) = (inr to, old xs all)

      new : (xs : List Message) → AllByRecursion (λ m. of_lane made (sent_for mid m) ≡ []) xs → AllByRecursion (λ m. of_lane made (sent_for mid m) ≡ [] ⊎ HasTarget ref m) xs
      new [] none = tt
      new (m ∷ xs) none = (inl none.0, new xs none.1)

module _ (here there : End) (ref : Reference) (made : List ℕ) (mid : State) (inbox ms : List Message) (calm : CalmHere here there ref made mid inbox ms) where
  abbrev here_then : End
  here_then = record { vat = mid; inbox = inbox }

  abbrev there_then : End
  there_then = with_mail there ms

  back_same : back here_then there_then made ≡ back here there made
  back_same = level_back here there made mid inbox ms calm.level

  waits_there_same : waits here_then there_then made ≡ waits here there made
  waits_there_same = level_there here there made mid inbox ms calm.level

  way_same : on_way here_then there_then made ≡ on_way here there made
  way_same = level_way here there made mid inbox ms calm.level

  sent_after : (xs : List Message) → sent_in here.vat made xs ≡ [] → sent_in mid made (xs ++ ms) ≡ []
  sent_after = level_sent here there made mid inbox ms calm.level

  goes_on : (e : ℕ) → GoBackTo here there made e → GoBackTo here_then there_then made e
  goes_on = level_goes here there made mid inbox ms calm.level

  waiting_there : (At : Gate → Type 0) → AllWait here there made At → AllWait here_then there_then made At
  waiting_there = level_waits here there made mid inbox ms calm.level

  waiting_on : (At Then : Gate → Type 0) → ((gate : Gate) → At gate → Then gate) → AllWaitHere here made At → AllWaitHere here_then made Then
  waiting_on = level_waits_here here there made mid inbox ms calm.level

  none_on : (is : Message → Bool) → list_any is here.inbox ≡ false → list_any is inbox ≡ false
  none_on is none = by calm.front
    where
      by : IsFront (IsApartHere here there ref made) here.inbox inbox → list_any is inbox ≡ false
      by (inl same) = rw (same) none
      by (inr (m, was, a)) = any_taken is m inbox (rw was at none)

  -- the only message of a kind to this end, with those before it
  only_on : (is : Message → Bool) (before : List Message) (m : Message) (after : List Message) → IsOnly here.inbox is before m after
      → ((x : Message) → IsApartHere here there ref made x → is x ≡ false)
      → (left : List Message) × IsOnly inbox is left m after × (back_in here.vat there.vat made before ≡ [] → back_in mid there.vat made left ≡ [])
  only_on is before m after only apart = by calm.front
    where
      by : IsFront (IsApartHere here there ref made) here.inbox inbox
          → (left : List Message) × IsOnly inbox is left m after × (back_in here.vat there.vat made before ≡ [] → back_in mid there.vat made left ≡ [])
      by (inl same) = (before, rw (same) only, λ none. back_in_same made here.vat mid calm.level.tickets there.vat before ∙ none)
      by (inr (x, was, a)) =
          let taken = only_taken x inbox is before m after (rw was at only) (apart x a) in (
            taken.left,
            taken.only,
            λ none.
                back_in_same made here.vat mid calm.level.tickets there.vat taken.left
                ∙ sym (lane_cons made (forwarded_for here.vat there.vat) x taken.left ∙ ap (λ ys. ys ++ back_in here.vat there.vat made taken.left) a.back_)
                ∙ ap (back_in here.vat there.vat made) (sym taken.was) ∙ none,
          )

  comes_on : ComesBack here there ref made → ComesBack here_then there_then ref made
  comes_on c =
      record {
        object = c.object;
        number = c.number;
        came = calm.came (caps.Object c.object) c.came;
        is_export = calm.exports c.number (caps.Object c.object) c.is_export;
        ends = c.ends;
        goes_back = goes_on c.number c.goes_back;
        no_waits = waits_there_same ∙ c.no_waits;
      }

  unopened_on : Unopened here there ref made → Unopened here_then there_then ref made
  unopened_on p =
      record {
        open_ = calm.open_ p.open_;
        before = p.before;
        opening = p.opening;
        after = p.after ++ ms;
        only = only_mail ms p.only (calm.unopened_ p.open_);
        sent_after = sent_in_same made here.vat mid calm.level.tickets (p.before ++ p.opening ∷ []) ∙ p.sent_after;
        mark = rw (calm.mark) p.mark;
        untold = none_on (tells ref) p.untold;
        no_back = back_same ∙ p.no_back;
        no_waits = waits_there_same ∙ p.no_waits;
        none_here = calm.level.waiting ∙ p.none_here;
      }

  unsettled_on : Unsettled here there ref made → Unsettled here_then there_then ref made
  unsettled_on p =
      record {
        yet = calm.yet p.yet;
        gate = p.gate;
        open_ = p.open_;
        waiting = waiting_there (λ g. g ≡ p.gate) p.waiting;
        mark = rw (calm.mark) p.mark;
        untold = none_on (tells ref) p.untold;
        no_back = back_same ∙ p.no_back;
        none_here = calm.level.waiting ∙ p.none_here;
      }

  told_on : Told here there ref made → Told here_then there_then ref made
  told_on p =
      let only = only_on (tells ref) p.before p.telling p.after p.only (λ x apart. apart.tell) in
      record {
        yet = calm.yet p.yet;
        object = p.object;
        number = p.number;
        is_export = calm.exports p.number (caps.Object p.object) p.is_export;
        ends = p.ends;
        before = only.0;
        telling = p.telling;
        after = p.after;
        only = only.1;
        says = p.says;
        back_after = only.2 p.back_after;
        goes_back = goes_on p.number p.goes_back;
        waiting = waiting_there (LeadsBack there.vat p.number) p.waiting;
        mark = rw (calm.mark) p.mark;
        none_here = calm.level.waiting ∙ p.none_here;
      }

  embargoed_on : Embargoed here there ref made → Embargoed here_then there_then ref made
  embargoed_on p =
      record {
        comes = comes_on p.comes;
        embargo = p.embargo;
        mark = calm.mark ∙ p.mark;
        before = p.before;
        loop = p.loop;
        after = p.after ++ ms;
        only = only_mail ms p.only (calm.no_loop p.embargo p.mark);
        sent_before = sent_after p.after p.sent_before;
        no_echo = none_on (is_echo p.embargo) p.no_echo;
        waiting = waiting_on (λ g. g ≡ gates.Embargo p.embargo) (λ g. g ≡ gates.Embargo p.embargo) (λ g at. at) p.waiting;
      }

  echoed_on : Echoed here there ref made → Echoed here_then there_then ref made
  echoed_on p =
      let only = only_on (is_echo p.embargo) p.before p.echo p.after p.only (λ x apart. apart.echo p.embargo p.mark) in
      record {
        comes = comes_on p.comes;
        embargo = p.embargo;
        mark = calm.mark ∙ p.mark;
        before = only.0;
        echo = p.echo;
        after = p.after;
        only = only.1;
        back_before = back_in_same made here.vat mid calm.level.tickets there.vat p.after ∙ p.back_before;
        no_loop = any_mail (is_loop p.embargo) there.inbox ms p.no_loop (calm.no_loop p.embargo p.mark);
        no_way = way_same ∙ p.no_way;
        waiting = waiting_on (λ g. g ≡ gates.Embargo p.embargo) (λ g. g ≡ gates.Embargo p.embargo) (λ g at. at) p.waiting;
      }

  phase_on : Phase here there ref made → Phase here_then there_then ref made ⊎ Absent here there ref made
  phase_on (absent p) = inr p
  phase_on (unopened p) = inl (unopened (unopened_on p))
  phase_on (unsettled p) = inl (unsettled (unsettled_on p))
  phase_on (told p) = inl (told (told_on p))
  phase_on (free p) =
      inl
      (free
      (record {
        object = p.object;
        came = calm.came (caps.Object p.object) p.came;
        mark = calm.mark ∙ p.mark;
        no_back = back_same ∙ p.no_back;
        no_waits = waits_there_same ∙ p.no_waits;
        no_way = way_same ∙ p.no_way;
        waiting = calm.gave_ p.object p.waiting;
      }))
  phase_on (marked p) = inl (marked (record { comes = comes_on p.comes; mark = calm.mark ∙ p.mark; none_here = calm.level.waiting ∙ p.none_here }))
  phase_on (embargoed p) = inl (embargoed (embargoed_on p))
  phase_on (echoed p) = inl (echoed (echoed_on p))
  phase_on (local_open p) =
      inl
      (local_open
      (record {
        gate = p.gate;
        open_ = calm.local_ p.gate p.open_;
        waiting = waiting_on (λ g. g ≡ p.gate) (λ g. g ≡ p.gate) (λ g at. at) p.waiting;
        no_back = back_same ∙ p.no_back;
        no_waits = waits_there_same ∙ p.no_waits;
        no_way = way_same ∙ p.no_way;
      }))

  delivered_on : (delivered : List Delivery) → AreDelivered (reference_of here.vat.values (cap_of ref)) delivered → AreDelivered (reference_of mid.values (cap_of ref)) delivered
  delivered_on delivered all = by (reference_of here.vat.values (cap_of ref)) refl all
    where
      nothing : delivered ≡ [] → AreDelivered (reference_of mid.values (cap_of ref)) delivered
      nothing none = rw (none) (delivered_nothing (reference_of mid.values (cap_of ref)))

      by : (r : calling.Standing) → reference_of here.vat.values (cap_of ref) ≡ r → AreDelivered r delivered → AreDelivered (reference_of mid.values (cap_of ref)) delivered
      by plain is none = nothing none
      by on_wire is none = nothing none
      by (came_to caps.None) is none = nothing none
      by (came_to (caps.Object k)) is all = rw (calm.came (caps.Object k) is) all
      by (came_to (caps.Promise p)) is none = nothing none
      by (came_to (caps.Import i)) is none = nothing none
      by (came_to (caps.Pipelined q path)) is none = nothing none
      by (came_to (caps.Broken x)) is none = nothing none

  in_lane_on : (delivered : List Delivery) → (Absent here there ref made → InLane here there ref made delivered → LaneHolds here_then there_then ref made delivered)
      → InLane here there ref made delivered → LaneHolds here_then there_then ref made delivered
  in_lane_on delivered on_absent lane = by (phase_on lane.phase)
    where
      with_phase : Phase here_then there_then ref made → InLane here_then there_then ref made delivered
      with_phase phase =
          record {
            whole = level_whole here there made mid inbox ms calm.level delivered lane.whole;
            targets = level_targets here there made mid inbox ms calm.level ref lane.targets;
            none_held = calm.level.held lane.none_held;
            delivered_ = delivered_on delivered lane.delivered_;
            phase = phase;
          }

      by : Phase here_then there_then ref made ⊎ Absent here there ref made → LaneHolds here_then there_then ref made delivered
      by (inl phase) = inr (with_phase phase)
      by (inr p) = on_absent p lane

  elsewhere_on : IsElsewhere here there ref made → IsElsewhere here_then there_then ref made
  elsewhere_on (came_to_other p) = came_to_other (p.0, calm.came p.0 p.1, p.2)
  elsewhere_on (told_other p) =
      let only = only_on (tells ref) p.before p.telling p.after p.only (λ x apart. apart.tell) in
      told_other
      (record {
        yet = calm.yet p.yet;
        closed = p.closed;
        before = only.0;
        telling = p.telling;
        after = p.after;
        only = only.1;
        says = other_on here.vat mid calm.exports (told_by ref p.telling) p.says;
      })
  elsewhere_on (hosted_there p) = hosted_there (record { yet = calm.yet p.yet; hosted = p.hosted; untold = none_on (tells ref) p.untold })

  -- The lane holds on, where an absent reference does.
  pub calm_here : (delivered : List Delivery) → (Absent here there ref made → InLane here there ref made delivered → LaneHolds here_then there_then ref made delivered)
      → LaneHolds here there ref made delivered → LaneHolds here_then there_then ref made delivered
  calm_here delivered on_absent (inl elsewhere) = inl (elsewhere_on elsewhere)
  calm_here delivered on_absent (inr lane) = in_lane_on delivered on_absent lane
