-- A call of the application keeps the lane of the reference that it is made on, with its ticket as one more: it is sent there, or waits here, or is delivered.
use Rattle.std.specs.Prelude.{◌≡◌, ◌⊎◌, refl, ℕ, ◌+◌, ◌<◌, ◌==◌, if◌then◌else◌, false, List, [], ◌∷◌, ◌++◌, flat_map, Option, Some, None, is_some}
use Rattle.std.specs.List.{list_any, count_by, AllByRecursion}
use Rattle.std.specs.FinMap.{get, insert, values}
use Rattle.std.proofs.Common.{inl, inr, arith, ap, sym, ◌∙◌, append-nil}
use Rattle.cp_messages.specs.declared.descriptor.Descriptor.{Descriptor}
use Rattle.cp_messages.specs.declared.message.Message.{Message}
use Rattle.cp_messages.specs.declared.message.Message.TheVariants as messages
use Rattle.cp_refs.specs.declared.cap.Cap.{Cap}
use Rattle.cp_refs.specs.declared.cap.Cap.TheVariants as caps
use Rattle.cp_refs.specs.declared.call.WaitingCall.{WaitingCall}
use Rattle.cp_refs.specs.declared.call.Origin.{Origin}
use Rattle.cp_refs.specs.declared.call.Origin.TheVariants as origins
use Rattle.cp_refs.specs.declared.call.Request.{Request}
use Rattle.cp_refs.specs.declared.outcome.Outcome.{Outcome}
use Rattle.cp_refs.specs.declared.route.Gate.{Gate}
use Rattle.cp_refs.specs.declared.route.Gate.TheVariants as gates
use Rattle.cp_refs.specs.declared.values.QuestionState.{QuestionState}
use Rattle.cp_refs.specs.declared.values.QuestionKind.{QuestionKind}
use Rattle.cp_refs.specs.declared.values.QuestionKind.TheVariants as kinds
use Rattle.cp_vat_machine.specs.State.{State}
use Rattle.cp_vat_machine.specs.Writing.{IsExport}
use Rattle.cp_vat_machine.specs.Go.{call_of}
use Rattle.cp_vat_machine.specs.Calling.{plain, on_wire, came_to, path_reference, question_reference, reference_of, mark_of, old_target, disembargo_of}
use Rattle.cp_vat_machine.specs.Local.{Local, IsWaiting}
use Rattle.cp_vat_machine.specs.declared.effect.Effect.{Effect}
use Rattle.cp_vat_machine.specs.declared.effect.Effect.TheVariants as effects
use Rattle.cp_vat_machine.proofs.Basics.{is_itself, other_number, all_back}
use Rattle.cp_vat_laws.proofs.Tables.{there_of, here_of, all_of, every_of, all_values, put_cases}
use Rattle.cp_vat_pair_laws.specs.Ledger.{opens}
use Rattle.cp_vat_pair_laws.specs.VatPair.{End, messages_sent, with_mail}
use Rattle.cp_vat_pair_laws.specs.Lane.{Reference, import_, path_to, cap_of, own_ticket, answer_forwarded, stands_for, Delivery}
use Rattle.cp_vat_pair_laws.specs.Naming.{is_loop, is_echo, AreLooped}
use Rattle.cp_vat_pair_laws.specs.Phases.{of_lane, sent_for, forwarded_for, waits_for, waits_as, stands_as, waits_here, sent_in, NoneHeld, AllWaitHere, HasTarget, opens_place, IsMarkedIf, IsUnheld, IsLocalOpen, Free, Marked, Embargoed, Echoed, LocalOpen, Phase, absent, unopened, unsettled, told, free, marked, embargoed, echoed, local_open, InLane, LaneHolds}
use Rattle.cp_vat_pair_laws.specs.Phases as phases
use Rattle.cp_vat_pair_laws.specs.Tickets.{TicketsHold}
use Rattle.cp_vat_pair_laws.proofs.lane.parts.Tables.{put_placed, all_entries, lane_last}
use Rattle.cp_vat_pair_laws.proofs.lane.parts.Midway.{Midway, fresh_there}
use Rattle.cp_vat_pair_laws.proofs.lane.other.NotOfLane.{IsFreshThere}
use Rattle.cp_vat_pair_laws.proofs.lane.own.PhaseOfCall.{IsMore, sent_unopened, sent_unsettled, sent_told, delivered_free, embargo_marked, held_embargoed, held_echoed, held_local, still_elsewhere}
use Rattle.cp_vat_pair_laws.proofs.lane.own.Reference.{IsPathOf}
use Rattle.cp_vat_pair_laws.proofs.lane.Lists.{lane_two, wait_none}
use Rattle.cp_vat_pair_laws.proofs.lane.Calm.{none_of_front, any_taken}
use Rattle.cp_vat_pair_laws.proofs.lane.OrderFollows.{absent_plain, unheld_plain, local_plain, none_waits_here}
use Rattle.cp_vat_pair_laws.proofs.lane.other.Give.{none_in}
use Rattle.cp_vat_pair_laws.proofs.lane.own.Turn.{lane_delivered}
use Rattle.cp_vat_pair_laws.proofs.lane.own.NextTicket.{are_other, among_last, lane_more, lane_of_last, own_below, none_forwards}
use Rattle.cp_vat_pair_laws.proofs.lane.own.CallSteps.{WaitsAs, gone_on, held_too, Called}
use Rattle.cp_vat_pair_laws.proofs.lane.own.CallElsewhere.{none_waits_next, same_reference}

-- what a reference can't be at once
pub wire_plain : {A : Type 0} → on_wire ≡ plain → A
wire_plain is = absurd (cc)

pub wire_came : {A : Type 0} (v : Cap) → on_wire ≡ came_to v → A
wire_came v is = absurd (cc)

pub plain_came : {A : Type 0} (v : Cap) → plain ≡ came_to v → A
plain_came v is = absurd (cc)

pub same_value : (one other : Cap) → came_to one ≡ came_to other → one ≡ other
same_value one other is = cc

-- a question of the application's that is open at its path as it is
pub local_question : (path : List ℕ) (question : QuestionState) → question_reference path (Some question) ≡ plain → question ≡ record { kind = kinds.Local; outcome = None }
local_question path question is = by question.kind question.outcome is
  where
    by : (kind : QuestionKind) (o : Option Outcome) → path_reference path kind o ≡ plain → ◌≡◌ {A = QuestionState} (record { kind = kind; outcome = o }) (record { kind = kinds.Local; outcome = None })
    by kinds.Local None is = refl
    by kinds.Wire None is = wire_plain is
    by kinds.Wire (Some outcome) is = absurd (cc)
    by kinds.Local (Some outcome) is = absurd (cc)

module _ (s : State) (inbox : List Message) (there : End) (local_ : Local s) (there_local : Local there.vat) (midway : Midway s inbox there) (loops : AreLooped s there.inbox inbox)
    (made : List ℕ) (tickets : TicketsHold s made) (q : ℕ) (fresh : get s.entries.questions q ≡ None) (request : Request) (ref : Reference) (delivered_ : List Delivery) where
  abbrev here : End
  here = record { vat = s; inbox = inbox }

  abbrev t : ℕ
  t = s.next_ticket

  abbrev more : List ℕ
  more = made ++ t ∷ []

  abbrev cap : Cap
  cap = cap_of ref

  -- What was under way is of the lane as before.
  module _ (done : List Effect) (new : State) (c : Called s q cap done new) (exports : (e : ℕ) (x : Cap) → IsExport s e x → IsExport new e x)
      (not_path : IsPathOf q ref → ⊥) where
    abbrev here_then : End
    here_then = record { vat = new; inbox = inbox }

    abbrev there_then : End
    there_then = with_mail there (messages_sent done)

    abbrev MadeThen : Type 0
    MadeThen = LaneHolds here_then there_then ref more (delivered_ ++ lane_delivered s there.vat more done)

    same : reference_of new.values cap ≡ reference_of s.values cap
    same = same_reference s inbox there local_ midway.agreed made tickets q fresh cap done new c exports ref not_path

    own_more : (r : ℕ) → (q == r) ≡ false → of_lane more (own_ticket (get new.entries.questions r)) ≡ of_lane made (own_ticket (get s.entries.questions r))
    own_more r other = ap (of_lane more) (c.tickets r other) ∙ lane_more made t (own_ticket (get s.entries.questions r)) (own_below s made tickets r)

    its_more : of_lane more (own_ticket (get new.entries.questions q)) ≡ t ∷ []
    its_more = ap (of_lane more) c.ticket ∙ lane_of_last made t

    stands_more : (a : ℕ) → of_lane more (stands_for new there.vat a) ≡ of_lane made (stands_for s there.vat a)
    stands_more a =
        lane_two made more (λ p. own_ticket (get s.entries.questions p)) (λ p. own_ticket (get new.entries.questions p)) (answer_forwarded (get there.vat.entries.questions a))
        (all_of (λ p. (q == p) ≡ false) (λ p. of_lane more (own_ticket (get new.entries.questions p)) ≡ of_lane made (own_ticket (get s.entries.questions p)))
        (answer_forwarded (get there.vat.entries.questions a)) own_more (none_forwards s inbox there midway.agreed there_local q fresh a))

    forwarded_more : (m : Message) → of_lane more (forwarded_for new there.vat m) ≡ of_lane made (forwarded_for s there.vat m)
    forwarded_more (messages.Call x) = stands_more x.question_id
    forwarded_more m = refl

    new_there : IsFreshThere there q
    new_there = fresh_there midway there_local q fresh

    sent_more : (ms : List Message) → list_any (opens q) ms ≡ false → AllByRecursion (λ m. of_lane more (sent_for new m) ≡ of_lane made (sent_for s m)) ms
    sent_more [] none = tt
    sent_more (m ∷ ms) none = (by m (none_of_front (opens q) m ms none), sent_more ms (any_taken (opens q) m ms none))
      where
        by : (m : Message) → opens q m ≡ false → of_lane more (sent_for new m) ≡ of_lane made (sent_for s m)
        by (messages.Call x) other = own_more x.question_id (other_number x.question_id q other)
        by m other = refl

    waits_more : (ticket : ℕ) (call : WaitingCall) → get there.vat.waiting.calls ticket ≡ Some call → of_lane more (waits_for new call.origin) ≡ of_lane made (waits_for s call.origin)
    waits_more ticket call at = by call.origin refl
      where
        by : (origin : Origin) → call.origin ≡ origin → of_lane more (waits_for new origin) ≡ of_lane made (waits_for s origin)
        by (origins.Own p) from = refl
        by (origins.Answer a) from = own_more a (are_other q a (λ is. new_there.held ticket call at (from ∙ ap (λ n. origins.Answer n) (sym is))))

    stands_as_more : (origin : Origin) → of_lane made (stands_as s there.vat origin) ≡ [] → of_lane more (stands_as new there.vat origin) ≡ []
    stands_as_more (origins.Answer a) none = stands_more a ∙ none
    stands_as_more (origins.Own p) none = refl

    held_more : WaitsAs s q new → NoneHeld here there made → NoneHeld here_then there more
    held_more waits none ticket call at = by waits
      where
        by : WaitsAs s q new → of_lane more (stands_as new there.vat call.origin) ≡ []
        by (gone_on is) = stands_as_more call.origin (none ticket call (sym (ap (λ cs. get cs ticket) is) ∙ at))
        by (held_too asked gate is) =
            elim (put_cases s.waiting.calls t ticket (record { ticket = t; origin = origins.Own q; request = asked; gate = gate }) call (sym (ap (λ cs. get cs ticket) is) ∙ at)) [
              | inl it ↦ ap (λ (x : WaitingCall). of_lane more (stands_as new there.vat x.origin)) (sym it.1)
              | inr was ↦ stands_as_more call.origin (none ticket call was.1)
            ]

    pub is_more : AllByRecursion (λ m. of_lane more (sent_for new m) ≡ [] ⊎ HasTarget ref m) (messages_sent done) → IsMore here there ref made t new (messages_sent done)
    is_more targets =
        record {
          back_ = every_of (λ m. of_lane more (forwarded_for new there.vat m) ≡ of_lane made (forwarded_for s there.vat m)) inbox forwarded_more;
          way_ = sent_more there.inbox new_there.on_way;
          waits_ = waits_more;
          held = held_more c.waits_as_;
          reference = same;
          exports = exports;
          targets = targets;
        }

    -- the calls that wait here
    here_more : (ticket : ℕ) (call : WaitingCall) → get s.waiting.calls ticket ≡ Some call → of_lane more (waits_as call call.origin) ≡ of_lane made (waits_as call call.origin)
    here_more ticket call at = lane_more made t (waits_as call call.origin) (below call.origin)
      where
        waits : IsWaiting s ticket call
        waits = there_of (IsWaiting s ticket) (get s.waiting.calls ticket) call at (local_.waiting ticket)

        below : (origin : Origin) → AllByRecursion (λ x. x < t) (waits_as call origin)
        below (origins.Own p) = (rw (waits.ticketed) waits.given, tt)
        below (origins.Answer a) = tt

    all_here : of_lane more (flat_map (λ (x : WaitingCall). waits_as x x.origin) (values s.waiting.calls)) ≡ waits_here here made
    all_here =
        lane_two made more (λ (x : WaitingCall). waits_as x x.origin) (λ (x : WaitingCall). waits_as x x.origin) (values s.waiting.calls)
        (all_values (λ (x : WaitingCall). of_lane more (waits_as x x.origin) ≡ of_lane made (waits_as x x.origin)) s.waiting.calls
        (λ ticket. here_of (λ (x : WaitingCall). of_lane more (waits_as x x.origin) ≡ of_lane made (waits_as x x.origin)) (get s.waiting.calls ticket) (λ call at. here_more ticket call at)))

    same_here : new.waiting.calls ≡ s.waiting.calls → waits_here here_then more ≡ waits_here here made
    same_here is = ap (λ cs. of_lane more (flat_map (λ (x : WaitingCall). waits_as x x.origin) (values cs))) is ∙ all_here

    -- It is sent, where its reference is open on the wire.
    module _ (table : List Descriptor) (is : done ≡ call_of q (old_target cap) request table ∷ []) (calls : new.waiting.calls ≡ s.waiting.calls)
        (wire : reference_of s.values cap ≡ on_wire) (mark : IsMarkedIf made (mark_of s cap) → mark_of new cap ≡ Some None) where
      to_it : AllByRecursion (λ m. of_lane more (sent_for new m) ≡ [] ⊎ HasTarget ref m) (messages_sent done)
      to_it = rw (is) (inr refl, tt)

      sends : sent_in new more (messages_sent done) ≡ t ∷ []
      sends = ap (λ effects. sent_in new more (messages_sent effects)) is ∙ ap (of_lane more) (append-nil (own_ticket (get new.entries.questions q))) ∙ its_more

      not_opening : list_any (opens_place ref) (messages_sent done) ≡ false
      not_opening = ap (λ effects. list_any (opens_place ref) (messages_sent effects)) is ∙ by ref not_path
        where
          by : (ref : Reference) → (IsPathOf q ref → ⊥) → list_any (opens_place ref) (messages_sent (call_of q (old_target cap) request table ∷ [])) ≡ false
          by (import_ i) other = refl
          by (path_to r path) other = rw (are_other q r other) refl

      none_then : lane_delivered s there.vat more done ≡ []
      none_then = rw (is) refl

      wire_unheld : IsUnheld s ref made → ⊥
      wire_unheld unheld = wire_plain (sym wire ∙ unheld_plain s ref made unheld)

      sent_phase : InLane here there ref made delivered_ → Phase here there ref made → MadeThen
      sent_phase lane (absent p) = wire_plain (sym wire ∙ absent_plain s there.vat ref p.none)
      sent_phase lane (unopened p) =
          rw
          (none_then)
          (inr
          (sent_unopened here there ref made t new (messages_sent done) (is_more to_it) wire sends (same_here calls ∙ p.none_here) (mark p.mark) not_opening p delivered_ lane))
      sent_phase lane (unsettled p) =
          rw
          (none_then)
          (inr
          (sent_unsettled here there ref made t new (messages_sent done) (is_more to_it) wire sends (same_here calls ∙ p.none_here) (mark p.mark) not_opening p delivered_ lane))
      sent_phase lane (told p) =
          rw
          (none_then)
          (inr (sent_told here there ref made t new (messages_sent done) (is_more to_it) wire sends (same_here calls ∙ p.none_here) (mark p.mark) not_opening p delivered_ lane))
      sent_phase lane (free p) = wire_came (caps.Object p.object) (sym wire ∙ p.came)
      sent_phase lane (marked p) = wire_came (caps.Object p.comes.object) (sym wire ∙ p.comes.came)
      sent_phase lane (embargoed p) = wire_came (caps.Object p.comes.object) (sym wire ∙ p.comes.came)
      sent_phase lane (echoed p) = wire_came (caps.Object p.comes.object) (sym wire ∙ p.comes.came)
      sent_phase lane (local_open p) = wire_plain (sym wire ∙ local_plain s ref p.gate p.open_)

      pub sent_lane : LaneHolds here there ref made delivered_ → MadeThen
      sent_lane (inl elsewhere) = inl (still_elsewhere here there ref made t new (messages_sent done) same wire_unheld exports elsewhere)
      sent_lane (inr lane) = sent_phase lane lane.phase

    -- A reference that is elsewhere stays so.
    pub elsewhere_lane : (IsUnheld s ref made → ⊥) → phases.IsElsewhere here there ref made → MadeThen
    elsewhere_lane known elsewhere = inl (still_elsewhere here there ref made t new (messages_sent done) same known exports elsewhere)

    -- It is delivered at once.
    pub delivered_lane : (p : Free here there ref made) → done ≡ effects.Deliver p.object (origins.Own q) t request ∷ [] → new.waiting.calls ≡ s.waiting.calls → mark_of new cap ≡ None
        → InLane here there ref made delivered_ → MadeThen
    delivered_lane p is calls mark lane =
        let d : Delivery = record { ticket = t; object = p.object } in
        let was = none_waits_here here made p.object local_.none_over_ p.waiting in
        let its_delivery : lane_delivered s there.vat more done ≡ d ∷ [] = ap (lane_delivered s there.vat more) is ∙ rw (among_last made t) refl in
        rw
        (its_delivery)
        (inr
        (delivered_free here there ref made t new (messages_sent done) (is_more (rw (is) tt)) p d refl refl (ap messages_sent is) was (same_here calls ∙ was) mark delivered_ lane))

    -- It waits, after those that do.
    module _ (gate : Gate)
        (put : new.waiting.calls ≡ insert s.waiting.calls t (record { ticket = t; origin = origins.Own q; request = request; gate = gate })) where
      abbrev held : WaitingCall
      held = record { ticket = t; origin = origins.Own q; request = request; gate = gate }

      unheld : get s.waiting.calls t ≡ None
      unheld = none_waits_next s local_

      none_after : AllByRecursion (λ e. of_lane more (waits_as e.1 e.1.origin) ≡ []) (put_placed s.waiting.calls t held unheld).back
      none_after = by (put_placed s.waiting.calls t held unheld).back (put_placed s.waiting.calls t held unheld).higher back_all
        where
          back_all : AllByRecursion (λ e. get s.waiting.calls e.0 ≡ Some e.1) (put_placed s.waiting.calls t held unheld).back
          back_all =
              all_back (λ e. get s.waiting.calls e.0 ≡ Some e.1) (put_placed s.waiting.calls t held unheld).front (put_placed s.waiting.calls t held unheld).back
              (rw ((put_placed s.waiting.calls t held unheld).without) at (all_entries (λ ticket x. get s.waiting.calls ticket ≡ Some x) s.waiting.calls (λ ticket x is. is)))

          never : {A : Type 0} (n k : ℕ) → k < n → n < k → A
          never n k less greater = absurd (omega (arith, less, greater))

          by : (es : List (ℕ × WaitingCall)) → AllByRecursion (λ e. t < e.0) es → AllByRecursion (λ e. get s.waiting.calls e.0 ≡ Some e.1) es
              → AllByRecursion (λ e. of_lane more (waits_as e.1 e.1.origin) ≡ []) es
          by [] high all = tt
          by (e ∷ es) high all =
              let waits = there_of (IsWaiting s e.0) (get s.waiting.calls e.0) e.1 all.0 (local_.waiting e.0) in
              never e.0 t high.0 waits.given

      held_here : waits_here here_then more ≡ waits_here here made ++ t ∷ []
      held_here =
          ap (λ cs. of_lane more (flat_map (λ (x : WaitingCall). waits_as x x.origin) (values cs))) put
          ∙ lane_last more (λ (x : WaitingCall). waits_as x x.origin) (put_placed s.waiting.calls t held unheld) none_after
          ∙ ap (λ xs. xs ++ of_lane more (t ∷ [])) all_here ∙ ap (λ xs. waits_here here made ++ xs) (lane_of_last made t)

      pub waiting_more : (At : Gate → Type 0) → At gate → AllWaitHere here made At → AllWaitHere here_then more At
      waiting_more At at_gate all ticket call at =
          elim (put_cases s.waiting.calls t ticket held call (sym (ap (λ cs. get cs ticket) put) ∙ at)) [
            | inl it ↦ inr (rw (← it.1) at_gate)
            | inr was ↦ old was.1 (all ticket call was.1)
          ]
        where
          old : get s.waiting.calls ticket ≡ Some call → of_lane made (waits_as call call.origin) ≡ [] ⊎ At call.gate → of_lane more (waits_as call call.origin) ≡ [] ⊎ At call.gate
          old was (inl none) = inl (here_more ticket call was ∙ none)
          old was (inr at_) = inr at_

      -- silently
      module _ (is : done ≡ []) (mark : mark_of new cap ≡ mark_of s cap) where
        silent : messages_sent done ≡ []
        silent = ap messages_sent is

        none_given : lane_delivered s there.vat more done ≡ []
        none_given = rw (is) refl

        no_calls : sent_in new more (messages_sent done) ≡ []
        no_calls = ap (sent_in new more) silent

        its_more_ : IsMore here there ref made t new (messages_sent done)
        its_more_ = is_more (rw (is) tt)

        pub embargoed_lane : (p : Embargoed here there ref made) → gate ≡ gates.Embargo p.embargo → InLane here there ref made delivered_ → MadeThen
        embargoed_lane p at lane =
            rw
            (none_given)
            (inr
            (held_embargoed here there ref made t new (messages_sent done) its_more_ held_here no_calls silent mark p (waiting_more (λ g. g ≡ gates.Embargo p.embargo) at) delivered_ lane))

        pub echoed_lane : (p : Echoed here there ref made) → gate ≡ gates.Embargo p.embargo → InLane here there ref made delivered_ → MadeThen
        echoed_lane p at lane =
            rw
            (none_given)
            (inr (held_echoed here there ref made t new (messages_sent done) its_more_ held_here no_calls silent mark p (waiting_more (λ g. g ≡ gates.Embargo p.embargo) at) delivered_ lane))

        pub local_lane : (p : LocalOpen here there ref made) → gate ≡ p.gate → IsLocalOpen new ref p.gate → InLane here there ref made delivered_ → MadeThen
        local_lane p at open_ lane =
            rw
            (none_given)
            (inr (held_local here there ref made t new (messages_sent done) its_more_ held_here no_calls silent mark p open_ (waiting_more (λ g. g ≡ p.gate) at) delivered_ lane))

      -- after a Disembargo
      pub marked_lane : (p : Marked here there ref made) (n : ℕ) → done ≡ disembargo_of n cap ∷ [] → gate ≡ gates.Embargo n → get s.marks.embargoes n ≡ None
          → mark_of new cap ≡ Some (Some n) → InLane here there ref made delivered_ → MadeThen
      marked_lane p n is at closed mark lane =
          let none_then : lane_delivered s there.vat more done ≡ [] = rw (is) refl in
          let no_calls : sent_in new more (messages_sent done) ≡ [] = rw (is) refl in
          let looped : count_by (is_loop n) there.inbox + count_by (is_echo n) inbox ≡ 0 = loops n ∙ ap (λ o. if is_some o then 1 else 0) closed in
          let no_loop = none_in (is_loop n) there.inbox (first_zero (count_by (is_loop n) there.inbox) (count_by (is_echo n) inbox) looped) in
          let no_echo = none_in (is_echo n) inbox (second_zero (count_by (is_loop n) there.inbox) (count_by (is_echo n) inbox) looped) in
          rw
          (none_then)
          (inr
          (embargo_marked here there ref made t new (messages_sent done) (is_more (rw (is) (inl refl, tt))) held_here no_calls p n _ (ap messages_sent is) (is_itself n) no_loop no_echo mark
          (waiting_by at) delivered_ lane))
        where
          first_zero : (a b : ℕ) → a + b ≡ 0 → a ≡ 0
          first_zero a b e = omega (arith, e)

          second_zero : (a b : ℕ) → a + b ≡ 0 → b ≡ 0
          second_zero a b e = omega (arith, e)

          waiting_by : gate ≡ gates.Embargo n → AllWaitHere here_then more (λ g. g ≡ gates.Embargo n)
          waiting_by at = waiting_more (λ g. g ≡ gates.Embargo n) at (λ ticket call was. inl (phases_none ticket call was))
            where
              phases_none : (ticket : ℕ) (call : WaitingCall) → get s.waiting.calls ticket ≡ Some call → of_lane made (waits_as call call.origin) ≡ []
              phases_none ticket call was =
                  wait_none made (λ (x : WaitingCall). waits_as x x.origin) s.waiting.calls p.none_here ticket call was
