-- A call of the application keeps each lane on whose reference it isn't made: other references, and the paths of the question that it opens.
use Rattle.std.specs.Prelude.{◌≡◌, ◌⊎◌, refl, ℕ, ◌<◌, ◌==◌, Bool, true, false, List, [], ◌∷◌, ◌++◌, flat_map, Option, Some, None, is_some}
use Rattle.std.specs.List.{list_any}
use Rattle.std.specs.FinMap.{get, values}
use Rattle.std.proofs.Common.{inl, inr, arith, ap, subst, sym, ◌∙◌, append-nil, true≢false}
use Rattle.cp_messages.specs.declared.exception.Exception.{Exception}
use Rattle.cp_messages.specs.declared.message.Message.{Message}
use Rattle.cp_messages.specs.declared.message.Message.TheVariants as messages
use Rattle.cp_refs.specs.declared.call.WaitingCall.{WaitingCall}
use Rattle.cp_refs.specs.declared.call.Origin.{Origin}
use Rattle.cp_refs.specs.declared.call.Origin.TheVariants as origins
use Rattle.cp_refs.specs.declared.cap.Cap.{Cap}
use Rattle.cp_refs.specs.declared.cap.Cap.TheVariants as caps
use Rattle.cp_refs.specs.declared.outcome.Outcome.TheVariants as outcomes
use Rattle.cp_refs.specs.declared.route.Gate.{Gate}
use Rattle.cp_refs.specs.declared.route.Gate.TheVariants as gates
use Rattle.cp_refs.specs.declared.values.QuestionKind.{QuestionKind}
use Rattle.cp_refs.specs.declared.values.QuestionKind.TheVariants as kinds
use Rattle.cp_vat_machine.specs.State.{State}
use Rattle.cp_vat_machine.specs.Writing.{IsExport}
use Rattle.cp_vat_machine.specs.InUse.{waiting_calls}
use Rattle.cp_vat_machine.specs.Calling.{came_to, import_reference, path_reference, question_reference, reference_of, own_call, mark_of}
use Rattle.cp_vat_machine.specs.Local.{Local, IsWaiting, is_wire, IsPathMark}
use Rattle.cp_vat_machine.specs.declared.effect.Effect.{Effect}
use Rattle.cp_vat_machine.proofs.Basics.{is_equal, not_equal}
use Rattle.cp_vat_laws.specs.Within.{Within}
use Rattle.cp_vat_laws.proofs.within.Between.{local_is_within}
use Rattle.cp_vat_laws.proofs.Tables.{there_of, all_of, put_cases}
use Rattle.cp_vat_pair_laws.specs.Accounts.{accounts_of}
use Rattle.cp_vat_pair_laws.specs.Lives.{standing_of, will_stand, returns_of, Fits, Agree}
use Rattle.cp_vat_pair_laws.specs.VatPair.{End, messages_sent, with_mail}
use Rattle.cp_vat_pair_laws.specs.Lane.{Reference, import_, path_to, cap_of, CameTo, names, is_among, own_ticket, Delivery}
use Rattle.cp_vat_pair_laws.specs.Phases.{of_lane, sent_for, forwarded_for, waits_for, waits_as, stands_as, waits_here, NoneHeld, GaveObject, opens_place, IsAbsent, IsYet, IsUnheld, IsLocalOpen, Absent, absent, local_open, came_to_other, InLane, LaneHolds}
use Rattle.cp_vat_pair_laws.specs.Tickets.{TicketsHold}
use Rattle.cp_vat_pair_laws.proofs.still.Does.{fresh_value}
use Rattle.cp_vat_pair_laws.proofs.lane.parts.Tables.{put_placed, lane_without}
use Rattle.cp_vat_pair_laws.proofs.lane.parts.Lives.{fresh_unopened}
use Rattle.cp_vat_pair_laws.proofs.lane.own.Reference.{IsPathOf}
use Rattle.cp_vat_pair_laws.proofs.lane.own.Phase.{another_phase}
use Rattle.cp_vat_pair_laws.proofs.lane.Lists.{lane_unmade}
use Rattle.cp_vat_pair_laws.proofs.lane.OrderFollows.{over_none}
use Rattle.cp_vat_pair_laws.proofs.lane.own.Calm.{LevelHere, CalmHere, calm_here, level_waits_here, stands_same}
use Rattle.cp_vat_pair_laws.proofs.lane.own.Turn.{embargo_there, lane_delivered, none_delivered, one_delivered}
use Rattle.cp_vat_pair_laws.proofs.lane.own.Asks.{unmade_lane, unmade, none_returned, fits_none, opens_lane}
use Rattle.cp_vat_pair_laws.proofs.lane.own.NextTicket.{are_other, not_among, lane_of_other}
use Rattle.cp_vat_pair_laws.proofs.lane.own.CallSteps.{AskedAs, wired, here_yet, broken, WaitsAs, gone_on, held_too, IsSentUnder, DeliversOnly, Called}

-- No call waits with the next ticket.
pub none_waits_next : (s : State) → Local s → get s.waiting.calls s.next_ticket ≡ None
none_waits_next s local_ = by (get s.waiting.calls s.next_ticket) refl
  where
    never : (n : ℕ) → n < n → ⊥
    never n less = omega (arith, less)

    by : (o : Option WaitingCall) → get s.waiting.calls s.next_ticket ≡ o → get s.waiting.calls s.next_ticket ≡ None
    by None is = is
    by (Some call) is =
        let waits = there_of (IsWaiting s s.next_ticket) (get s.waiting.calls s.next_ticket) call is (local_.waiting s.next_ticket) in
        absurd (never s.next_ticket waits.given)

module _ (s : State) (inbox : List Message) (there : End) (local_ : Local s) (agree : Agree (accounts_of s) inbox (accounts_of there.vat) there.inbox) (made : List ℕ)
    (tickets : TicketsHold s made) (q : ℕ) (fresh : get s.entries.questions q ≡ None) (cap : Cap) (done : List Effect) (new : State) (c : Called s q cap done new)
    (exports : (e : ℕ) (x : Cap) → IsExport s e x → IsExport new e x) where
  abbrev here : End
  here = record { vat = s; inbox = inbox }

  abbrev here_then : End
  here_then = record { vat = new; inbox = inbox }

  abbrev there_then : End
  there_then = with_mail there (messages_sent done)

  abbrev t : ℕ
  t = s.next_ticket

  h : Within s None []
  h = local_is_within s local_

  not_made : is_among t made ≡ false
  not_made = not_among t made tickets.made_below

  -- its ticket is none of the lane
  tickets_same : (r : ℕ) → of_lane made (own_ticket (get new.entries.questions r)) ≡ of_lane made (own_ticket (get s.entries.questions r))
  tickets_same r = by (q == r) refl
    where
      by : (b : Bool) → (q == r) ≡ b → of_lane made (own_ticket (get new.entries.questions r)) ≡ of_lane made (own_ticket (get s.entries.questions r))
      by true e =
          let same : q ≡ r = is_equal q r e in
          ap (λ n. of_lane made (own_ticket (get new.entries.questions n))) (sym same) ∙ ap (of_lane made) c.ticket ∙ lane_of_other made t not_made
          ∙ sym (ap (λ n. of_lane made (own_ticket (get s.entries.questions n))) (sym same) ∙ ap (λ o. of_lane made (own_ticket o)) fresh)
      by false e = ap (of_lane made) (c.tickets r e)

  waiting_same : WaitsAs s q new → waits_here here_then made ≡ waits_here here made
  waiting_same (gone_on is) = ap (λ cs. of_lane made (flat_map (λ (x : WaitingCall). waits_as x x.origin) (values cs))) is
  waiting_same (held_too request gate is) =
      ap (λ cs. of_lane made (flat_map (λ (x : WaitingCall). waits_as x x.origin) (values cs))) is
      ∙ lane_without made (λ (x : WaitingCall). waits_as x x.origin)
      (put_placed s.waiting.calls t (record { ticket = t; origin = origins.Own q; request = request; gate = gate }) (none_waits_next s local_)) (lane_of_other made t not_made)

  calls_same : WaitsAs s q new → (ticket : ℕ) (call : WaitingCall) → get new.waiting.calls ticket ≡ Some call
      → of_lane made (waits_as call call.origin) ≡ [] ⊎ (get s.waiting.calls ticket ≡ Some call)
  calls_same (gone_on is) ticket call at = inr (sym (ap (λ cs. get cs ticket) is) ∙ at)
  calls_same (held_too request gate is) ticket call at =
      elim (put_cases s.waiting.calls t ticket (record { ticket = t; origin = origins.Own q; request = request; gate = gate }) call (sym (ap (λ cs. get cs ticket) is) ∙ at)) [
        | inl it ↦ inl (ap (λ (x : WaitingCall). of_lane made (waits_as x x.origin)) (sym it.1) ∙ lane_of_other made t not_made)
        | inr was ↦ inr was.1
      ]

  held_same : WaitsAs s q new → NoneHeld here there made → NoneHeld here_then there made
  held_same waits none ticket call at = by waits
    where
      stands : (origin : Origin) → of_lane made (stands_as s there.vat origin) ≡ [] → of_lane made (stands_as new there.vat origin) ≡ []
      stands (origins.Answer a) before = stands_same made s new tickets_same there.vat a ∙ before
      stands (origins.Own p) before = refl

      by : WaitsAs s q new → of_lane made (stands_as new there.vat call.origin) ≡ []
      by (gone_on is) = stands call.origin (none ticket call (sym (ap (λ cs. get cs ticket) is) ∙ at))
      by (held_too request gate is) =
          elim (put_cases s.waiting.calls t ticket (record { ticket = t; origin = origins.Own q; request = request; gate = gate }) call (sym (ap (λ cs. get cs ticket) is) ∙ at)) [
            | inl it ↦ ap (λ (x : WaitingCall). of_lane made (stands_as new there.vat x.origin)) (sym it.1)
            | inr was ↦ stands call.origin (none ticket call was.1)
          ]

  sent_none : (m : Message) → IsSentUnder q m → of_lane made (sent_for new m) ≡ []
  sent_none (messages.Call x) is = ap (λ n. of_lane made (own_ticket (get new.entries.questions n))) is ∙ ap (of_lane made) c.ticket ∙ lane_of_other made t not_made
  sent_none m is = refl

  level : LevelHere here there made new inbox (messages_sent done)
  level =
      record {
        tickets = tickets_same;
        waiting = waiting_same c.waits_as_;
        calls = calls_same c.waits_as_;
        held = held_same c.waits_as_;
        sends = all_of (IsSentUnder q) (λ m. of_lane made (sent_for new m) ≡ []) (messages_sent done) sent_none c.sends;
        taken = inl refl;
      }

  delivered_none : DeliversOnly s q done → lane_delivered s there.vat made done ≡ []
  delivered_none (inl none) = none_delivered s there.vat made done none
  delivered_none (inr (k, request, is)) =
      ap (lane_delivered s there.vat made) is ∙ one_delivered s there.vat made k (own_call s q request) (origins.Own q) refl (lane_of_other made t not_made)

  -- a reference that is no path of its question stays as it is
  pub same_reference : (ref : Reference) → (IsPathOf q ref → ⊥) → reference_of new.values (cap_of ref) ≡ reference_of s.values (cap_of ref)
  same_reference (import_ i) not_ = ap (λ m. import_reference (get m i)) c.imports
  same_reference (path_to r path) not_ = ap (question_reference path) (c.questions r (are_other q r not_))

  module _ (ref : Reference) (not_ : IsPathOf q ref → ⊥) where
    yet_on : IsYet s ref made → IsYet new ref made
    yet_on (inl open_) = inl (same_reference ref not_ ∙ open_)
    yet_on (inr unheld) = inr (by ref unheld)
      where
        by : (ref : Reference) → IsUnheld s ref made → IsUnheld new ref made
        by (import_ i) is = (ap (λ m. get m i) c.imports ∙ is.0, is.1)
        by (path_to r path) is = absurd is

    absent_stays : IsAbsent s there.vat ref → IsAbsent new there.vat ref
    absent_stays none = by ref not_ none
      where
        by : (ref : Reference) → (IsPathOf q ref → ⊥) → IsAbsent s there.vat ref → IsAbsent new there.vat ref
        by (import_ i) other is = (ap (λ m. get m i) c.imports ∙ is.0, is.1)
        by (path_to r path) other is = c.questions r (are_other q r other) ∙ is

    local_on : (gate : Gate) → IsLocalOpen s ref gate → IsLocalOpen new ref gate
    local_on gate open_ = by ref not_ open_
      where
        by : (ref : Reference) → (IsPathOf q ref → ⊥) → IsLocalOpen s ref gate → IsLocalOpen new ref gate
        by (import_ i) other is = absurd is
        by (path_to r path) other is = (rw (c.questions r (are_other q r other)) is.0, is.1)

    not_opened : list_any (opens_place ref) (messages_sent done) ≡ false
    not_opened = by ref not_
      where
        nothing : (i : ℕ) (ms : List Message) → list_any (opens_place (import_ i)) ms ≡ false
        nothing i [] = refl
        nothing i (m ∷ ms) = nothing i ms

        by : (ref : Reference) → (IsPathOf q ref → ⊥) → list_any (opens_place ref) (messages_sent done) ≡ false
        by (import_ i) other = nothing i (messages_sent done)
        by (path_to r path) other = c.opens_ r (are_other q r other)

    embargo_open : (n : ℕ) → mark_of s (cap_of ref) ≡ Some (Some n) → is_some (get s.marks.embargoes n) ≡ true
    embargo_open n mark = by (get s.marks.embargoes n) refl
      where
        by : (o : Option Cap) → get s.marks.embargoes n ≡ o → is_some (get s.marks.embargoes n) ≡ true
        by None is = absurd (embargo_there s ref n h mark is)
        by (Some value) is = ap is_some is

    module _ (not_named_ : names ref cap ≡ false) where
      calm : CalmHere here there ref made new inbox (messages_sent done)
      calm =
          record {
            level = level;
            open_ = λ is. same_reference ref not_ ∙ is;
            yet = yet_on;
            came = λ value is. same_reference ref not_ ∙ is;
            local_ = local_on;
            mark = c.marks ref not_named_;
            exports = exports;
            gave_ = λ k waiting.
                level_waits_here here there made new inbox (messages_sent done) level (GaveObject s k) (GaveObject new k)
                (λ gate is. absurd (over_none s gate (caps.Object k) local_.none_over_ is)) waiting;
            unopened_ = λ is. not_opened;
            no_loop = λ n is. c.loops n (embargo_open n is);
            front = inl refl;
          }

      absent_on : (delivered : List Delivery) → Absent here there ref made → InLane here there ref made delivered → LaneHolds here_then there_then ref made delivered
      absent_on delivered p lane =
          inr
          (another_phase here there ref made new inbox (messages_sent done) level delivered (rw (same_reference ref not_) lane.delivered_) lane
          (absent (record { none = absent_stays p.none; unmade = p.unmade })))

      other_lane : (delivered : List Delivery) → LaneHolds here there ref made delivered
          → LaneHolds here_then there_then ref made (delivered ++ lane_delivered s there.vat made done)
      other_lane delivered holds =
          rw
          (delivered_none c.delivers, append-nil delivered)
          (calm_here here there ref made new inbox (messages_sent done) calm delivered (absent_on delivered) holds)

  -- a path of its question had no call
  module _ (path : List ℕ) (not_named_ : names (path_to q path) cap ≡ false) where
    unvalued : get s.values.questions q ≡ None
    unvalued = fresh_value h q fresh

    fits : Fits None (returns_of q inbox) (will_stand q there.inbox (standing_of ((accounts_of there.vat).answers q)))
    fits = rw fresh at (agree.lives q)

    unmarked : mark_of new (cap_of (path_to q path)) ≡ None
    unmarked = c.marks (path_to q path) not_named_ ∙ by (get s.marks.paths (q ∷ path)) refl
      where
        by : (o : Option (Option ℕ)) → get s.marks.paths (q ∷ path) ≡ o → get s.marks.paths (q ∷ path) ≡ None
        by None is = is
        by (Some mark) is =
            let on = there_of (IsPathMark s (q ∷ path)) (get s.marks.paths (q ∷ path)) mark is (h.path_marks (q ∷ path)) in
            absurd (true≢false (sym on.0 ∙ ap is_wire unvalued))

    came_broken : (x : Exception) (kind : QuestionKind) → get new.values.questions q ≡ Some (record { kind = kind; outcome = Some (outcomes.Failed x) })
        → CameTo new (path_to q path) (caps.Broken x)
    came_broken x kind at = ap (question_reference path) at ∙ by kind
      where
        by : (kind : QuestionKind) → path_reference path kind (Some (outcomes.Failed x)) ≡ came_to (caps.Broken x)
        by kinds.Wire = refl
        by kinds.Local = refl

    asked_lane : AskedAs s q done new → LaneHolds here_then there_then (path_to q path) [] []
    asked_lane (wired m at sends it) =
        rw
        (sends)
        (inr
        (opens_lane here there q path new m at it (fresh_unopened q (returns_of q inbox) there.inbox (standing_of ((accounts_of there.vat).answers q)) fits)
        (none_returned q path inbox (fits_none (returns_of q inbox) (will_stand q there.inbox (standing_of ((accounts_of there.vat).answers q))) fits)) unmarked))
    asked_lane (here_yet at) =
        inr
        (unmade_lane here_then there_then (path_to q path)
        (local_open
        (record {
          gate = gates.Question q path;
          open_ = (rw (at) refl, refl);
          waiting = λ ticket call is. inl (lane_unmade (waits_as call call.origin));
          no_back = lane_unmade (flat_map (forwarded_for new there.vat) inbox);
          no_waits = lane_unmade (flat_map (λ call. waits_for new call.origin) (waiting_calls there.vat));
          no_way = lane_unmade (flat_map (sent_for new) there_then.inbox);
        })))
    asked_lane (broken x kind at) = inl (came_to_other (caps.Broken x, came_broken x kind at, λ object. object))

    path_lane : (delivered : List Delivery) → LaneHolds here there (path_to q path) made delivered
        → LaneHolds here_then there_then (path_to q path) made (delivered ++ lane_delivered s there.vat made done)
    path_lane delivered holds =
        let nothing = unmade here there q path made delivered unvalued holds in
        rw (delivered_none c.delivers, append-nil delivered, nothing.0, nothing.1) (asked_lane c.asked_as)

  pub beside_lane : (ref : Reference) → names ref cap ≡ false → (delivered : List Delivery) → LaneHolds here there ref made delivered
      → LaneHolds here_then there_then ref made (delivered ++ lane_delivered s there.vat made done)
  beside_lane (import_ i) not delivered holds = other_lane (import_ i) (λ is. is) not delivered holds
  beside_lane (path_to r path) not delivered holds = by (q == r) refl
    where
      by : (b : Bool) → (q == r) ≡ b → LaneHolds here_then there_then (path_to r path) made (delivered ++ lane_delivered s there.vat made done)
      by true e =
          let same : r ≡ q = sym (is_equal q r e) in
          let of_q : names (path_to q path) cap ≡ false = ap (λ n. names (path_to n path) cap) (sym same) ∙ not in
          let then_ = path_lane path of_q delivered (subst (λ n. LaneHolds here there (path_to n path) made delivered) same holds) in
          subst (λ n. LaneHolds here_then there_then (path_to n path) made (delivered ++ lane_delivered s there.vat made done)) (sym same) then_
      by false e = other_lane (path_to r path) (λ is. not_equal q r e is) not delivered holds
