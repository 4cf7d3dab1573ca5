-- A message that the other end takes keeps a lane: as it is taken, what it names is taken in, and the answer that it opens.
use Rattle.std.specs.Prelude.{◌≡◌, refl, ℕ, ◌==◌, Bool, true, false, List, [], ◌∷◌, Option, Some, None, Ok}
use Rattle.std.specs.List.{list_any}
use Rattle.std.specs.FinMap.{get, insert}
use Rattle.std.proofs.Common.{inl, inr, ap, subst, sym, ◌∙◌}
use Rattle.std.proofs.lemmas.List.{append-nil}
use Rattle.cp_messages.specs.declared.descriptor.Descriptor.{Descriptor}
use Rattle.cp_messages.specs.declared.message.Message.{Message}
use Rattle.cp_refs.specs.declared.cap.Cap.{Cap}
use Rattle.cp_refs.specs.declared.outcome.Outcome.{Outcome}
use Rattle.cp_refs.specs.declared.route.Gate.TheVariants as gates
use Rattle.cp_vat_machine.specs.State.{State, none_over}
use Rattle.cp_vat_machine.specs.Receiving.{ReceivesCaps}
use Rattle.cp_vat_machine.proofs.Basics.{none_out, is_equal, is_itself, put_at}
use Rattle.cp_vat_laws.specs.Within.{Within}
use Rattle.cp_vat_laws.proofs.within.Take.{Grows, take_all_keeps}
use Rattle.cp_vat_pair_laws.specs.VatPair.{End, with_mail}
use Rattle.cp_vat_pair_laws.specs.Ledger.{opens}
use Rattle.cp_vat_pair_laws.specs.Naming.{place_of, answered_cap, is_loop}
use Rattle.cp_vat_pair_laws.specs.Lane.{Reference, import_, path_to, Delivery, answer_forwarded}
use Rattle.cp_vat_pair_laws.specs.Phases.{of_lane, sent_for, EndsAt, IsAbsent, Phase, absent, unopened, unsettled, told, free, marked, embargoed, echoed, local_open, IsElsewhere, came_to_other, told_other, hosted_there, InLane, LaneHolds}
use Rattle.cp_vat_pair_laws.proofs.still.Grows.{PlacesStay}
use Rattle.cp_vat_pair_laws.proofs.still.Receives.{taken_places}
use Rattle.cp_vat_pair_laws.proofs.lane.Calm.{any_taken}
use Rattle.cp_vat_pair_laws.proofs.lane.other.Calm.{LevelThere, IsApartThere, level_back, level_way}
use Rattle.cp_vat_pair_laws.proofs.lane.other.NoCallMoves.{PartThere, part_there}
use Rattle.cp_vat_pair_laws.proofs.lane.other.Places.{place_stays}
use Rattle.cp_vat_pair_laws.proofs.lane.other.Chain.{still_level, OverStays, KeptThere, IsThere, not_opened_at, ends_on, hosted_on, closed_on, leads_on, Chain, chain_one}
use Rattle.cp_vat_pair_laws.proofs.lane.other.Phase.{another_phase, is_opened}

pub nothing_sent : (here : End) → with_mail here [] ≡ here
nothing_sent here = ap (λ xs. record here { inbox = xs }) (append-nil here.inbox)

-- The front of the messages is taken, and it has nothing to do with the lane.
module _ (here : End) (s final : State) (m : Message) (rest : List Message) (known : IsThere here s final (m ∷ rest)) where
  abbrev with_it : End
  with_it = record { vat = s; inbox = m ∷ rest }

  abbrev without_it : End
  without_it = record { vat = s; inbox = rest }

  pub taken_known : IsThere here s final rest
  taken_known =
      record {
        unopened = λ q open_. any_taken (opens q) m rest (known.unopened q open_);
        untold = known.untold;
        unmarked = known.unmarked;
        stay = known.stay;
        held = known.held;
      }

  taken_level : (made : List ℕ) → of_lane made (sent_for here.vat m) ≡ [] → LevelThere here with_it made s rest []
  taken_level made none =
      let still = still_level here with_it made [] s refl (λ q. refl) refl in
      record {
        waiting = still.waiting;
        calls = still.calls;
        forwards = still.forwards;
        held = still.held;
        sends = tt;
        taken = inr (m, refl, none);
      }

  pub take_there : (ref : Reference) (made : List ℕ) (delivered : List Delivery) → IsApartThere here ref made m → LaneHolds here with_it ref made delivered
      → LaneHolds here without_it ref made delivered
  take_there ref made delivered apart lane =
      subst (λ h. LaneHolds h without_it ref made delivered) (nothing_sent here)
      (part_there here with_it ref made s rest []
      (record {
        level = taken_level made apart.sent;
        place = place_stays s s ref [] (λ e c is. is) (λ p is. is) (λ a is. is) refl;
        absent_ = λ none. inl none;
        ends_ = λ e at. at;
        hosted = λ is. is;
        closed_ = λ is. is;
        leads_ = λ e gate is. is;
        held_there = λ e at. known.held ref e (ends_on s final known.stay ref e at);
        not_opened = not_opened_at here s final (m ∷ rest) known ref;
        no_echo = λ n marked_. refl;
        front = inr (m, refl, apart);
      })
      delivered lane)

-- What descriptors name is taken in.
pub grows_kept : (s new : State) → Grows s new → KeptThere s [] new
grows_kept s new h =
    record {
      level = λ here made inbox. still_level here (record { vat = s; inbox = inbox }) made [] new (ap (λ x. x.calls) h.waiting) (λ q. ap (λ t. answer_forwarded (get t q)) h.asked) refl;
      places = taken_places h;
      place = λ ref. place_stays s new ref [] (λ e c is. (is.0, ap (λ t. get t e) h.exports ∙ is.1)) (λ p is. h.promises p None is) (λ a is. ap (λ t. get t a) h.answers ∙ is) refl;
      over = λ gate cap is. rw (h.waiting) is;
      fresh = λ i none. inl (ap (λ t. get t i) h.exports ∙ none);
      answers = λ q is. sym (ap (λ t. get t q) h.answers) ∙ is;
      no_echo = λ n. refl;
    }

pub take_chain : (table : List Descriptor) (s : State) (taken : List Cap × State) → Within s None [] → s.waiting.over ≡ none_over → ReceivesCaps s table (Ok taken) → Chain s [] taken.1
take_chain table s taken w none is = chain_one (grows_kept s taken.1 (take_all_keeps None [] table s taken w none is).1)

-- An answer is opened.
module _ (here : End) (s final : State) (m : Message) (rest : List Message) (known : IsThere here s final (m ∷ rest)) (a : ℕ) (new : State)
    (changed : new.values ≡ record s.values { answers = insert s.values.answers a None }) (waiting : new.waiting ≡ s.waiting) (counts : new.counts ≡ s.counts)
    (asked : new.entries.questions ≡ s.entries.questions) (unanswered : get s.values.answers a ≡ None) (once : list_any (opens a) rest ≡ false) (later : PlacesStay new final) where
  abbrev before_it : End
  before_it = record { vat = s; inbox = m ∷ rest }

  abbrev after_it : End
  after_it = record { vat = new; inbox = rest }

  answer_on : (q : ℕ) (x : Option Outcome) → get s.values.answers q ≡ Some x → get new.values.answers q ≡ Some x
  answer_on q x is = ap (λ v. get v.answers q) changed ∙ by (a == q) refl
    where
      by : (b : Bool) → (a == q) ≡ b → get (insert s.values.answers a None) q ≡ Some x
      by true t = none_out (sym unanswered ∙ ap (λ n. get s.values.answers n) (is_equal a q t) ∙ is)
      by false t = put_at s.values.answers a q None false t ∙ is

  pub opened_places : PlacesStay s new
  opened_places =
      record {
        ways = record { promises = λ p v is. ap (λ x. get x.promises p) changed ∙ is; questions = λ q question o is given_. ap (λ x. get x.questions q) changed ∙ is };
        answers = λ q o is. answer_on q (Some o) is;
        exports = λ e c is. (is.0, ap (λ x. get x.exports e) counts ∙ is.1);
        one_export = λ one. rw (counts) one;
      }

  over_on : OverStays s new
  over_on gate cap is = rw (waiting) is

  pub opened_known : IsThere here new final rest
  opened_known =
      record {
        unopened = λ q open_. unopened_by q (a == q) refl open_;
        untold = λ i none. known.untold i (sym (ap (λ x. get x.exports i) counts) ∙ none);
        unmarked = known.unmarked;
        stay = later;
        held = known.held;
      }
    where
      unopened_by : (q : ℕ) (b : Bool) → (a == q) ≡ b → get new.values.answers q ≡ Some None → list_any (opens q) rest ≡ false
      unopened_by q true t open_ = rw (← is_equal a q t) once
      unopened_by q false t open_ =
          any_taken (opens q) m rest (known.unopened q (sym (put_at s.values.answers a q None false t) ∙ sym (ap (λ v. get v.answers q) changed) ∙ open_))

  opened_level : (made : List ℕ) → of_lane made (sent_for here.vat m) ≡ [] → LevelThere here before_it made new rest []
  opened_level made none =
      let still = still_level here before_it made [] new (ap (λ x. x.calls) waiting) (λ q. ap (λ t. answer_forwarded (get t q)) asked) refl in
      record {
        waiting = still.waiting;
        calls = still.calls;
        forwards = still.forwards;
        held = still.held;
        sends = tt;
        taken = inr (m, refl, none);
      }

  open_part : (ref : Reference) (made : List ℕ) → IsApartThere here ref made m → PartThere here before_it ref made new rest []
  open_part ref made apart =
      record {
        level = opened_level made apart.sent;
        place = place_stays s new ref [] (λ e c is. (is.0, ap (λ x. get x.exports e) counts ∙ is.1)) (λ p is. ap (λ x. get x.promises p) changed ∙ is) (λ q is. answer_on q None is) refl;
        absent_ = λ none. inl (absent_by ref none);
        ends_ = ends_on s new opened_places ref;
        hosted = hosted_on s new opened_places ref;
        closed_ = closed_on s new opened_places ref;
        leads_ = leads_on s new opened_places over_on;
        held_there = λ e at. known.held ref e (ends_on new final later ref e at);
        not_opened = not_opened_at here s final (m ∷ rest) known ref;
        no_echo = λ n marked_. refl;
        front = inr (m, refl, apart);
      }
    where
      absent_by : (r : Reference) → IsAbsent here.vat s r → IsAbsent here.vat new r
      absent_by (path_to q path) none = none
      absent_by (import_ i) none = (none.0, ap (λ x. get x.exports i) counts ∙ none.1)

  -- the place of a path of that very answer
  module _ (path : List ℕ) (made : List ℕ) (it : opens a m ≡ true) where
    abbrev its : Reference
    its = path_to a path

    no_place : {A : Type 0} (e : ℕ) → EndsAt s (place_of s its) e → A
    no_place e at = absurd (by (rw unanswered at at))
      where
        by : EndsAt s (answered_cap path None) e → ⊥
        by h = h

    module _ (none : of_lane made (sent_for here.vat m) ≡ []) (delivered : List Delivery) where
      level : LevelThere here before_it made new rest []
      level = opened_level made none

      open_phase : Phase here before_it its made → Phase (with_mail here []) after_it its made
      open_phase (absent p) = absent (record { none = p.none; unmade = p.unmade })
      open_phase (unopened p) =
          unsettled
          (is_opened here before_it its made new rest [] level m (gates.Answer a path) refl it
          (ap (λ v. get v.answers a) changed ∙ put_at s.values.answers a a None true (is_itself a), refl) refl p)
      open_phase (unsettled p) = none_out (sym unanswered ∙ p.open_.0)
      open_phase (told p) = no_place p.number p.ends
      open_phase (free p) =
          free
          (record {
            object = p.object;
            came = p.came;
            mark = p.mark;
            no_back = level_back here before_it made new rest [] level ∙ p.no_back;
            no_waits = level.waiting ∙ p.no_waits;
            no_way = level_way here before_it made new rest [] level ∙ p.no_way;
            waiting = p.waiting;
          })
      open_phase (marked p) = no_place p.comes.number p.comes.ends
      open_phase (embargoed p) = no_place p.comes.number p.comes.ends
      open_phase (echoed p) = no_place p.comes.number p.comes.ends
      open_phase (local_open p) =
          local_open
          (record {
            gate = p.gate;
            open_ = p.open_;
            waiting = p.waiting;
            no_back = level_back here before_it made new rest [] level ∙ p.no_back;
            no_waits = level.waiting ∙ p.no_waits;
            no_way = level_way here before_it made new rest [] level ∙ p.no_way;
          })

    its_elsewhere : IsElsewhere here before_it its made → IsElsewhere here after_it its made
    its_elsewhere (came_to_other p) = came_to_other p
    its_elsewhere (told_other p) = none_out (sym unanswered ∙ p.closed.1)
    its_elsewhere (hosted_there p) = absurd p.hosted

    its_lane : (delivered : List Delivery) → of_lane made (sent_for here.vat m) ≡ [] → LaneHolds here before_it its made delivered → LaneHolds here after_it its made delivered
    its_lane delivered none (inl elsewhere) = inl (its_elsewhere elsewhere)
    its_lane delivered none (inr lane) =
        inr
        (subst (λ h. InLane h after_it its made delivered) (nothing_sent here)
        (another_phase here before_it its made new rest [] (opened_level made none) delivered lane (open_phase none delivered lane.phase)))

  -- of any reference
  module _ (it : opens a m ≡ true) (others : (q : ℕ) → (a == q) ≡ false → opens q m ≡ false) (no_loop : (n : ℕ) → is_loop n m ≡ false) where
    pub open_there : (ref : Reference) (made : List ℕ) (delivered : List Delivery) → of_lane made (sent_for here.vat m) ≡ [] → LaneHolds here before_it ref made delivered
        → LaneHolds here after_it ref made delivered
    open_there (import_ i) made delivered none lane =
        subst (λ h. LaneHolds h after_it (import_ i) made delivered) (nothing_sent here)
        (part_there here before_it (import_ i) made new rest [] (open_part (import_ i) made (record { sent = none; opens_ = refl; loop = λ n marked_. no_loop n })) delivered lane)
    open_there (path_to q path) made delivered none lane = by (a == q) refl
      where
        by : (b : Bool) → (a == q) ≡ b → LaneHolds here after_it (path_to q path) made delivered
        by true t =
            subst (λ n. LaneHolds here after_it (path_to n path) made delivered) (is_equal a q t)
            (its_lane path made it delivered none (subst (λ n. LaneHolds here before_it (path_to n path) made delivered) (sym (is_equal a q t)) lane))
        by false t =
            subst (λ h. LaneHolds h after_it (path_to q path) made delivered) (nothing_sent here)
            (part_there here before_it (path_to q path) made new rest []
            (open_part (path_to q path) made (record { sent = none; opens_ = others q t; loop = λ n marked_. no_loop n })) delivered lane)

    pub open_elsewhere : (ref : Reference) (made : List ℕ) → IsElsewhere here before_it ref made → IsElsewhere here after_it ref made
    open_elsewhere ref made (came_to_other p) = came_to_other p
    open_elsewhere (import_ i) made (told_other p) =
        told_other (record { yet = p.yet; closed = closed_on s new opened_places (import_ i) p.closed; before = p.before; telling = p.telling; after = p.after; only = p.only; says = p.says })
    open_elsewhere (path_to q path) made (told_other p) =
        told_other (record { yet = p.yet; closed = closed_on s new opened_places (path_to q path) p.closed; before = p.before; telling = p.telling; after = p.after; only = p.only; says = p.says })
    open_elsewhere (import_ i) made (hosted_there p) =
        hosted_there (record { yet = p.yet; hosted = hosted_on s new opened_places (import_ i) p.hosted; untold = p.untold })
    open_elsewhere (path_to q path) made (hosted_there p) = absurd p.hosted
