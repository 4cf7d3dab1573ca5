-- Order over both vats follows from what each move keeps.
use Rattle.std.specs.Prelude.{◌≡◌, ◌⊎◌, refl, ℕ, Bool, true, false, List, [], ◌∷◌, ◌++◌, Option, Some, None, IsTrue}
use Rattle.std.specs.FinMap.{get, get-empty}
use Rattle.std.specs.Ordering.{nat_cmp}
use Rattle.std.proofs.Common.{inl, inr, ap, sym, ◌∙◌, true≢false}
use Rattle.std.proofs.lemmas.List.{append_assoc, append-nil}
use Rattle.cp_refs.specs.declared.cap.Cap.{Cap}
use Rattle.cp_refs.specs.declared.cap.Cap.TheVariants as caps
use Rattle.cp_refs.specs.declared.call.WaitingCall.{WaitingCall}
use Rattle.cp_refs.specs.declared.outcome.Outcome.{Outcome}
use Rattle.cp_refs.specs.declared.route.Gate.{Gate}
use Rattle.cp_refs.specs.declared.route.Gate.TheVariants as gates
use Rattle.cp_refs.specs.declared.values.QuestionState.{QuestionState}
use Rattle.cp_refs.specs.declared.values.QuestionKind.{QuestionKind}
use Rattle.cp_refs.specs.declared.values.QuestionKind.TheVariants as kinds
use Rattle.cp_messages.specs.declared.message.Message.{Message}
use Rattle.cp_vat_machine.specs.State.{State, gave, none_over}
use Rattle.cp_vat_machine.specs.InUse.{is_question_here, is_open_here}
use Rattle.cp_vat_machine.specs.Calling.{plain, on_wire, came_to, reference_of, import_reference, question_reference, path_reference}
use Rattle.cp_vat_machine.specs.Calling as calling
use Rattle.cp_vat_machine.proofs.Basics.{none_out}
use Rattle.cp_vat_machine.proofs.NewVats.{new_local}
use Rattle.cp_vat_pair_laws.specs.VatPair.{VatPair, Side, at_first, at_second, across, End, end_of, new_end, new_pair, Move, Moves, last_of, AreOpen, AreQuiet}
use Rattle.cp_vat_pair_laws.specs.Lane.{Reference, import_, path_to, cap_of, CameTo, made, Delivery, deliveries, delivered_among, deliveries_of, tickets_of, AreStill}
use Rattle.cp_vat_pair_laws.specs.Laws.{AreInOrder, LaneOrder}
use Rattle.cp_vat_pair_laws.specs.Phases.{back, waits, on_way, waits_here, waits_as, IsWhole, AllWaitHere, GaveObject, AreDelivered, IsYet, IsUnheld, IsAbsent, IsLocalOpen, IsObject, CameToOther, IsElsewhere, came_to_other, told_other, hosted_there, Phase, absent, unopened, unsettled, told, free, marked, embargoed, echoed, local_open, InLane, LaneHolds}
use Rattle.cp_vat_pair_laws.specs.LaneKept.{EndHolds, StillHolds, CallsHold, made_in, MovesKeep}
use Rattle.cp_vat_pair_laws.proofs.lane.Lists.{none_wait}
use Rattle.cp_vat_pair_laws.proofs.NewPairs.{new_agree, new_orderly}
use Rattle.cp_vat_pair_laws.proofs.NewVats.{new_looped, new_lanes, new_quiet, new_tickets}
use Rattle.cp_vat_pair_laws.proofs.counts.Moves.{first_open}

-- what holds after all moves
module _ (keep : MovesKeep) where
  all_keep : (moves : List Move) (w : VatPair) → StillHolds w → Moves w moves → AreOpen (last_of w moves) → AreStill moves → (side : Side) (ref : Reference) (m : List ℕ)
      (all : List Delivery) → CallsHold (end_of w side) (end_of w (across side)) ref m all
      → StillHolds (last_of w moves) × CallsHold (end_of (last_of w moves) side) (end_of (last_of w moves) (across side)) ref (m ++ made w side ref moves) (all ++ deliveries w side moves)
  all_keep [] w holds steps open_ still side ref m all calls = (holds, rw (append-nil m, append-nil all) calls)
  all_keep (move ∷ more) w holds steps open_ still side ref m all calls =
      let first = keep w move holds steps.0 (first_open more move.after steps.1 open_) still.0 in
      rw
      (← append_assoc m (made_in w side ref move) (made move.after side ref more), ← append_assoc all (deliveries_of w side move) (deliveries move.after side more))
      (all_keep more move.after first.0 steps.1 open_ still.1 side ref (m ++ made_in w side ref move) (all ++ deliveries_of w side move) (first.1 side ref m all calls))

new_holds : (one other : Option ℕ) → StillHolds (new_pair one other)
new_holds one other =
    record {
      agreed = new_agree one other;
      ends = ends;
    }
  where
    end_holds : (one other : Option ℕ) → EndHolds (new_end one) (new_end other)
    end_holds one other = record { local_ = new_local one; orderly = new_orderly one; quiet = new_quiet one; loops = new_looped one other; last = tt }

    ends : (side : Side) → EndHolds (end_of (new_pair one other) side) (end_of (new_pair one other) (across side))
    ends at_first = end_holds one other
    ends at_second = end_holds other one

new_calls : (one other : Option ℕ) (side : Side) (ref : Reference) → CallsHold (end_of (new_pair one other) side) (end_of (new_pair one other) (across side)) ref [] []
new_calls one other at_first ref = record { tickets = new_tickets one; given = tt; lane = new_lanes one other ref }
new_calls one other at_second ref = record { tickets = new_tickets other; given = tt; lane = new_lanes other one ref }

-- A reference that came to an object is in its lane.
abbrev is_open : calling.Standing → Bool
is_open on_wire = true
is_open other = false

abbrev is_plain : calling.Standing → Bool
is_plain plain = true
is_plain other = false

abbrev value_of : calling.Standing → Cap
value_of (came_to value) = value
value_of other = caps.None

module _ (s : State) (ref : Reference) (k : ℕ) (came : CameTo s ref (caps.Object k)) where
  not_open : {A : Type 0} → reference_of s.values (cap_of ref) ≡ on_wire → A
  not_open is = absurd (true≢false (ap is_open (sym is ∙ came)))

  not_plain : {A : Type 0} → reference_of s.values (cap_of ref) ≡ plain → A
  not_plain is = absurd (true≢false (ap is_plain (sym is ∙ came)))

  same_value : (value : Cap) → CameTo s ref value → value ≡ caps.Object k
  same_value value is = ap value_of (sym is ∙ came)

import_plain : (s : State) (i : ℕ) → get s.values.imports i ≡ None → reference_of s.values (caps.Import i) ≡ plain
import_plain s i is = ap import_reference is

path_plain : (s : State) (q : ℕ) (path : List ℕ) → get s.values.questions q ≡ None → reference_of s.values (caps.Pipelined q path) ≡ plain
path_plain s q path is = ap (question_reference path) is

pub absent_plain : (here there : State) (ref : Reference) → IsAbsent here there ref → reference_of here.values (cap_of ref) ≡ plain
absent_plain here there (import_ i) is = import_plain here i is.0
absent_plain here there (path_to q path) is = path_plain here q path is

pub unheld_plain : (s : State) (ref : Reference) (made : List ℕ) → IsUnheld s ref made → reference_of s.values (cap_of ref) ≡ plain
unheld_plain s (import_ i) made is = import_plain s i is.0
unheld_plain s (path_to q path) made is = absurd is

open_here_plain : (path : List ℕ) (kind : QuestionKind) (o : Option Outcome) → IsTrue (is_open_here kind o) → path_reference path kind o ≡ plain
open_here_plain path kinds.Local None is = refl
open_here_plain path kinds.Wire None is = absurd (true≢false (sym is))
open_here_plain path kinds.Local (Some x) is = absurd (true≢false (sym is))
open_here_plain path kinds.Wire (Some x) is = absurd (true≢false (sym is))

here_plain : (path : List ℕ) (o : Option QuestionState) → IsTrue (is_question_here o) → question_reference path o ≡ plain
here_plain path None is = refl
here_plain path (Some question) is = open_here_plain path question.kind question.outcome is

pub local_plain : (s : State) (ref : Reference) (gate : Gate) → IsLocalOpen s ref gate → reference_of s.values (cap_of ref) ≡ plain
local_plain s (import_ i) gate is = absurd is
local_plain s (path_to q path) gate is = here_plain path (get s.values.questions q) is.0

module _ (here there : End) (ref : Reference) (k : ℕ) (came : CameTo here.vat ref (caps.Object k)) where
  pub not_yet : {A : Type 0} (tickets : List ℕ) → IsYet here.vat ref tickets → A
  not_yet tickets (inl is) = not_open here.vat ref k came is
  not_yet tickets (inr is) = not_plain here.vat ref k came (unheld_plain here.vat ref tickets is)

  not_elsewhere : {A : Type 0} (tickets : List ℕ) → IsElsewhere here there ref tickets → A
  not_elsewhere tickets (came_to_other other) =
      absurd (other.2 (rw (same_value here.vat ref k came other.0 other.1) tt))
  not_elsewhere tickets (told_other other) = not_yet tickets other.yet
  not_elsewhere tickets (hosted_there other) = not_yet tickets other.yet

pub local_not_yet : {A : Type 0} (s : State) (ref : Reference) (made : List ℕ) (gate : Gate) → IsLocalOpen s ref gate → IsYet s ref made → A
local_not_yet s (import_ i) made gate is yet = absurd is
local_not_yet s (path_to q path) made gate is (inl open_) = absurd (true≢false (ap is_open (sym open_ ∙ local_plain s (path_to q path) gate is)))
local_not_yet s (path_to q path) made gate is (inr unheld) = absurd unheld

-- No gate is over between events, so no call waits at one that is.
nothing_gave : (gate : Gate) (cap : Cap) → gave none_over gate ≡ Some cap → ⊥
nothing_gave (gates.Answer a path) cap is = none_out (sym (rw (get-empty {X = Outcome} nat_cmp a) refl) ∙ is)
nothing_gave (gates.Promise p) cap is = none_out (sym (get-empty {X = Cap} nat_cmp p) ∙ is)
nothing_gave (gates.Question q path) cap is = none_out (sym (rw (get-empty {X = Outcome} nat_cmp q) refl) ∙ is)
nothing_gave (gates.Embargo n) cap is = none_out (sym (get-empty {X = Cap} nat_cmp n) ∙ is)

pub over_none : (s : State) (gate : Gate) (cap : Cap) → s.waiting.over ≡ none_over → gave s.waiting.over gate ≡ Some cap → ⊥
over_none s gate cap none is = nothing_gave gate cap (rw none at is)

pub none_waits_here : (here : End) (made : List ℕ) (k : ℕ) → here.vat.waiting.over ≡ none_over → AllWaitHere here made (GaveObject here.vat k) → waits_here here made ≡ []
none_waits_here here made k none waiting =
    none_wait made (λ call. waits_as call call.origin) here.vat.waiting.calls (λ ticket call is. by ticket call is (waiting ticket call is))
  where
    by : (ticket : ℕ) (call : WaitingCall) → get here.vat.waiting.calls ticket ≡ Some call
        → Rattle.cp_vat_pair_laws.specs.Phases.of_lane made (waits_as call call.origin) ≡ [] ⊎ GaveObject here.vat k call.gate
        → Rattle.cp_vat_pair_laws.specs.Phases.of_lane made (waits_as call call.origin) ≡ []
    by ticket call is (inl e) = e
    by ticket call is (inr over) = absurd (over_none here.vat call.gate (caps.Object k) none over)

-- What is under way where it came to an object: nothing where no message is on the way.
abbrev pub Rest : End → End → List ℕ → List ℕ
Rest here there made = back here there made ++ waits here there made ++ on_way here there made ++ waits_here here made

none_left : (a b c d : List ℕ) → a ≡ [] → b ≡ [] → c ≡ [] → d ≡ [] → a ++ b ++ c ++ d ≡ []
none_left a b c d ae be ce de = rw (ae, be, ce, de) refl

empty_back : (here there : End) (made : List ℕ) → here.inbox ≡ [] → back here there made ≡ []
empty_back here there made is = rw (is) refl

empty_way : (here there : End) (made : List ℕ) → there.inbox ≡ [] → on_way here there made ≡ []
empty_way here there made is = rw (is) refl

not_empty : {A : Type 0} (inbox before after : List Message) (m : Message) → inbox ≡ before ++ m ∷ after → inbox ≡ [] → A
not_empty inbox [] after m is none = absurd (cc)
not_empty inbox (x ∷ before) after m is none = absurd (cc)

module _ (here there : End) (ref : Reference) (k : ℕ) (made : List ℕ) (holds : EndHolds here there) (came : CameTo here.vat ref (caps.Object k)) (no_inbox : here.inbox ≡ [])
    (no_outbox : there.inbox ≡ []) where
  nothing_left : Phase here there ref made → Rest here there made ≡ []
  nothing_left (absent p) = not_plain here.vat ref k came (absent_plain here.vat there.vat ref p.none)
  nothing_left (unopened p) = not_open here.vat ref k came p.open_
  nothing_left (unsettled p) = not_yet here there ref k came made p.yet
  nothing_left (told p) = not_yet here there ref k came made p.yet
  nothing_left (free p) =
      none_left _ _ _ _ (empty_back here there made no_inbox) p.no_waits (empty_way here there made no_outbox)
      (none_waits_here here made p.object holds.local_.none_over_ p.waiting)
  nothing_left (marked p) = none_left _ _ _ _ (empty_back here there made no_inbox) p.comes.no_waits (empty_way here there made no_outbox) p.none_here
  nothing_left (embargoed p) = not_empty there.inbox p.before p.after p.loop p.only.all no_outbox
  nothing_left (echoed p) = not_empty here.inbox p.before p.after p.echo p.only.all no_inbox
  nothing_left (local_open p) = not_plain here.vat ref k came (local_plain here.vat ref p.gate p.open_)

-- The calls of a lane that came to an object are in order.
whole_is : (here there : End) (made : List ℕ) (delivered : List Delivery) → IsWhole here there made delivered → made ≡ tickets_of delivered ++ Rest here there made
whole_is here there made delivered is =
    is ∙ joined (tickets_of delivered) (back here there made) (waits here there made) (on_way here there made) (waits_here here made)
  where
    joined : (t a b c d : List ℕ) → t ++ a ++ b ++ c ++ d ≡ t ++ (a ++ b ++ c ++ d)
    joined t a b c d =
        ap (λ x. x ++ c ++ d) (append_assoc t a b) ∙ ap (λ x. x ++ d) (append_assoc t (a ++ b) c) ∙ append_assoc t (a ++ b ++ c) d

lane_in_order : (here there : End) (ref : Reference) (k : ℕ) (made : List ℕ) (delivered : List Delivery) (last : VatPair) → (AreQuiet last → (here.inbox ≡ []) × (there.inbox ≡ []))
    → EndHolds here there → CameTo here.vat ref (caps.Object k) → InLane here there ref made delivered → AreInOrder made delivered k last
lane_in_order here there ref k made delivered last inboxes holds came lane =
    record {
      begins = (Rest here there made, whole_is here there made delivered lane.whole);
      whole =
          λ quiet.
          let empty_ = inboxes quiet in
          let none = nothing_left here there ref k made holds came empty_.0 empty_.1 lane.phase in
          sym (whole_is here there made delivered lane.whole ∙ ap (λ rest. tickets_of delivered ++ rest) none ∙ append-nil (tickets_of delivered));
      there = rw came at lane.delivered_;
    }

order_by : (here there : End) (ref : Reference) (k : ℕ) (made : List ℕ) (delivered : List Delivery) (last : VatPair) → (AreQuiet last → (here.inbox ≡ []) × (there.inbox ≡ []))
    → EndHolds here there → CameTo here.vat ref (caps.Object k) → LaneHolds here there ref made delivered → AreInOrder made delivered k last
order_by here there ref k made delivered last inboxes holds came (inl elsewhere) = not_elsewhere here there ref k came made elsewhere
order_by here there ref k made delivered last inboxes holds came (inr lane) = lane_in_order here there ref k made delivered last inboxes holds came lane

quiet_both : (last : VatPair) (side : Side) → AreQuiet last → ((end_of last side).inbox ≡ []) × ((end_of last (across side)).inbox ≡ [])
quiet_both last at_first quiet = quiet
quiet_both last at_second quiet = (quiet.1, quiet.0)

-- So the law holds, if each move keeps what it does.
pub order_follows : MovesKeep → LaneOrder
order_follows keep one other moves steps open_ still side ref k came =
    let last = last_of (new_pair one other) moves in
    let both = all_keep keep moves (new_pair one other) (new_holds one other) steps open_ still side ref [] [] (new_calls one other side ref) in
    order_by (end_of last side) (end_of last (across side)) ref k (made (new_pair one other) side ref moves)
    (delivered_among (made (new_pair one other) side ref moves) (deliveries (new_pair one other) side moves)) last (quiet_both last side) (both.0.ends side) came both.1.lane
