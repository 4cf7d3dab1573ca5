-- A part of an event at the other end in which no call of the lane moves keeps the lane, also where its place is settled or exported there.
use Rattle.std.specs.Prelude.{◌≡◌, ◌⊎◌, refl, ℕ, zero, suc, Bool, true, false, List, [], ◌∷◌, ◌++◌, Option, Some, None}
use Rattle.std.specs.List.{list_any}
use Rattle.std.specs.FinMap.{get}
use Rattle.std.proofs.Common.{inl, inr, ap, subst, sym, ◌∙◌, true≢false}
use Rattle.cp_messages.specs.declared.descriptor.Descriptor.{Descriptor}
use Rattle.cp_messages.specs.declared.descriptor.Descriptor.TheVariants as descriptors
use Rattle.cp_messages.specs.declared.message.Message.{Message}
use Rattle.cp_refs.specs.Values.{ValueMaps}
use Rattle.cp_refs.specs.declared.cap.Cap.{Cap}
use Rattle.cp_refs.specs.declared.cap.Cap.TheVariants as caps
use Rattle.cp_refs.specs.declared.route.Gate.{Gate}
use Rattle.cp_refs.specs.declared.route.Gate.TheVariants as gates
use Rattle.cp_vat_machine.specs.State.{State}
use Rattle.cp_vat_machine.specs.Writing.{IsExport, end_within}
use Rattle.cp_vat_machine.specs.Calling.{mark_of}
use Rattle.cp_vat_machine.proofs.Basics.{some_out, none_out}
use Rattle.cp_vat_pair_laws.specs.VatPair.{End, with_mail}
use Rattle.cp_vat_pair_laws.specs.Lane.{Reference, import_, path_to, cap_of, Delivery}
use Rattle.cp_vat_pair_laws.specs.Naming.{place_of, exported_cap, answered_cap, is_echo}
use Rattle.cp_vat_pair_laws.specs.Phases.{LeadsBack, IsOnly, opens_place, tells, told_by, IsOpenPlace, IsClosedPlace, EndsAt, IsAbsent, IsYet, IsHostedThere, IsObject, IsOther, Absent, Unsettled, Phase, absent, unopened, unsettled, told, free, marked, embargoed, echoed, local_open, IsElsewhere, came_to_other, told_other, hosted_there, InLane, LaneHolds}
use Rattle.cp_vat_pair_laws.proofs.lane.OrderFollows.{not_yet, local_not_yet}
use Rattle.cp_vat_pair_laws.proofs.lane.other.Calm.{LevelThere, CalmThere, IsApartThere, calm_there}
use Rattle.cp_vat_pair_laws.proofs.lane.Calm.{IsFront, any_taken}
use Rattle.cp_vat_pair_laws.proofs.lane.other.Phase.{another_phase, is_exported, is_hosted, is_told, is_other}

-- a descriptor by which nothing comes back
abbrev pub IsNotBack : Option Descriptor → Type 0
IsNotBack (Some (descriptors.ReceiverHosted e)) = ⊥
IsNotBack other = Unit {0}

-- What a place is told to be: nothing that comes back; or an import at which it ends, and to which what waited at its gate may go.
abbrev pub IsToldRightly : State → Reference → Gate → Message → Type 0
IsToldRightly mid ref gate telling =
    IsNotBack (told_by ref telling)
    ⊎ ((e : ℕ) × (told_by ref telling ≡ Some (descriptors.ReceiverHosted e)) × EndsAt mid (place_of mid ref) e × LeadsBack mid e gate)

-- What a part of an event does to the place for a reference: it stays open if it was, and nothing is told; or it is settled, and that is told.
pub data PlaceStep (old mid : State) (ref : Reference) (ms : List Message) : Type 0 where
  stays : ((gate : Gate) → IsOpenPlace old ref gate → IsOpenPlace mid ref gate) → list_any (tells ref) ms ≡ false → PlaceStep old mid ref ms
  settles : (gate : Gate) (before : List Message) (telling : Message) (after : List Message) → IsOpenPlace old ref gate → IsOnly ms (tells ref) before telling after
      → IsClosedPlace mid ref → IsToldRightly mid ref gate telling → PlaceStep old mid ref ms

-- a place that is there from now on: an open promise, or an object
abbrev pub IsNewPlace : State → Reference → Type 0
IsNewPlace mid (import_ i) =
    ((p : ℕ) × IsExport mid i (caps.Promise p) × (get mid.values.promises p ≡ Some None)) ⊎ ((k : ℕ) × IsExport mid i (caps.Object k))
IsNewPlace mid (path_to q path) = ⊥

-- Where calls of the lane stay as they are, what its place does is told, and what is sent has nothing else to do with it.
pub record PartThere (here there : End) (ref : Reference) (made : List ℕ) (mid : State) (inbox ms : List Message) : Type 0 where
  pub level : LevelThere here there made mid inbox ms
  pub place : PlaceStep there.vat mid ref ms
  pub absent_ : IsAbsent here.vat there.vat ref
      → IsAbsent here.vat mid ref ⊎ (IsNewPlace mid ref × (mark_of here.vat (cap_of ref) ≡ None) × (list_any (tells ref) (here.inbox ++ ms) ≡ false))
  pub ends_ : (e : ℕ) → EndsAt there.vat (place_of there.vat ref) e → EndsAt mid (place_of mid ref) e
  pub hosted : IsHostedThere there.vat ref → IsHostedThere mid ref
  pub closed_ : IsClosedPlace there.vat ref → IsClosedPlace mid ref
  pub leads_ : (e : ℕ) (gate : Gate) → LeadsBack there.vat e gate → LeadsBack mid e gate
  pub held_there : (e : ℕ) → EndsAt mid (place_of mid ref) e → (cap : Cap) × IsExport here.vat e cap
  pub not_opened : (gate : Gate) → IsOpenPlace there.vat ref gate → list_any (opens_place ref) there.inbox ≡ false
  pub no_echo : (n : ℕ) → mark_of here.vat (cap_of ref) ≡ Some (Some n) → list_any (is_echo n) ms ≡ false
  pub front : IsFront (IsApartThere here ref made) there.inbox inbox

-- An open place isn't settled, nor does it end anywhere, nor is it an object.
same_export : (s : State) (e : ℕ) (cap other : Cap) → IsExport s e cap → IsExport s e other → cap ≡ other
same_export s e cap other is at = ap (λ x. x.kept) (some_out (sym is.1 ∙ at.1))

abbrev number_or : ℕ → Cap → ℕ
number_or n (caps.Promise p) = p
number_or n other = n

same_promise : (p r : ℕ) → caps.Promise p ≡ caps.Promise r → p ≡ r
same_promise p r is = ap (number_or p) is

pub open_gate : (s : State) (ref : Reference) (gate other : Gate) → IsOpenPlace s ref gate → IsOpenPlace s ref other → other ≡ gate
open_gate s (import_ i) gate other is at =
    at.3 ∙ ap (λ p. gates.Promise p) (same_promise at.0 is.0 (same_export s i (caps.Promise at.0) (caps.Promise is.0) at.1 is.1)) ∙ sym is.3
open_gate s (path_to q path) gate other is at = at.1 ∙ sym is.1

pub open_closed : {A : Type 0} (s : State) (ref : Reference) (gate : Gate) → IsOpenPlace s ref gate → IsClosedPlace s ref → A
open_closed s (import_ i) gate is at =
    let same : at.0 ≡ is.0 = same_promise at.0 is.0 (same_export s i (caps.Promise at.0) (caps.Promise is.0) at.2 is.1) in
    none_out (some_out (sym is.2 ∙ ap (λ p. get s.values.promises p) (sym same) ∙ at.3))
open_closed s (path_to q path) gate is at = none_out (some_out (sym is.0 ∙ at.1))

abbrev is_import : Cap → Bool
is_import (caps.Import i) = true
is_import other = false

open_ends_in : {A : Type 0} (n : ℕ) (values : ValueMaps) (p e : ℕ) → get values.promises p ≡ Some None → end_within n values (caps.Promise p) ≡ Some (caps.Import e) → A
open_ends_in zero values p e is ends_ = none_out ends_
open_ends_in (suc n) values p e is ends_ =
    let here : Some (caps.Promise p) ≡ Some (caps.Import e) = rw is at ends_ in
    absurd (true≢false (sym (ap is_import (some_out here))))

pub open_ends : {A : Type 0} (s : State) (ref : Reference) (gate : Gate) (e : ℕ) → IsOpenPlace s ref gate → EndsAt s (place_of s ref) e → A
open_ends s (import_ i) gate e is at =
    let there : EndsAt s (Some (caps.Promise is.0)) e = subst (λ o. EndsAt s (exported_cap o) e) is.1.1 at in
    open_ends_in there.0 s.values is.0 e is.2 there.1
open_ends s (path_to q path) gate e is at = absurd (subst (λ o. EndsAt s (answered_cap path o) e) is.0 at)

abbrev is_object : Cap → Bool
is_object (caps.Object k) = true
is_object other = false

pub open_hosted : {A : Type 0} (s : State) (ref : Reference) (gate : Gate) → IsOpenPlace s ref gate → IsHostedThere s ref → A
open_hosted s (import_ i) gate is at =
    absurd (true≢false (ap is_object (same_export s i (caps.Object at.0) (caps.Promise is.0) at.1 is.1)))
open_hosted s (path_to q path) gate is at = absurd at

not_back : (s : State) (d : Option Descriptor) → IsNotBack d → IsOther s d
not_back s None is = tt
not_back s (Some descriptors.None) is = tt
not_back s (Some (descriptors.SenderHosted i)) is = tt
not_back s (Some (descriptors.SenderPromise i)) is = tt
not_back s (Some (descriptors.ReceiverHosted e)) is = absurd is
not_back s (Some (descriptors.ReceiverAnswer a)) is = tt
not_back s (Some (descriptors.ThirdPartyHosted t)) is = tt
not_back s (Some (descriptors.Unknown n)) is = tt

other_cap : (s : State) (e : ℕ) (cap : Cap) → IsExport s e cap → (IsObject cap → ⊥) → (d : Option Descriptor) → d ≡ Some (descriptors.ReceiverHosted e) → IsOther s d
other_cap s e cap export_ not_object d is = rw (is) (cap, export_, not_object)

module _ (here there : End) (ref : Reference) (made : List ℕ) (mid : State) (inbox ms : List Message) (part : PartThere here there ref made mid inbox ms) where
  abbrev here_then : End
  here_then = with_mail here ms

  abbrev there_then : End
  there_then = record { vat = mid; inbox = inbox }

  -- where nothing is told
  calm_by : (IsYet here.vat ref made → (gate : Gate) → IsOpenPlace there.vat ref gate → IsOpenPlace mid ref gate)
      → (IsYet here.vat ref made → list_any (tells ref) ms ≡ false) → CalmThere here there ref made mid inbox ms
  calm_by open_ untold =
      record {
        level = part.level;
        open_ = open_;
        ends = part.ends_;
        hosted = part.hosted;
        leads = part.leads_;
        closed_ = part.closed_;
        untold = untold;
        no_echo = part.no_echo;
        front = part.front;
      }

  -- of what came to something, or is a local question's, it doesn't matter
  calm_not : (IsYet here.vat ref made → ⊥) → CalmThere here there ref made mid inbox ms
  calm_not not = calm_by (λ yet. absurd (not yet)) (λ yet. absurd (not yet))

  module _ (delivered : List Delivery) where
    -- an import's place is new there
    new_place : (r : Reference) → ref ≡ r → IsNewPlace mid r → mark_of here.vat (cap_of ref) ≡ None → list_any (tells ref) (here.inbox ++ ms) ≡ false → IsAbsent here.vat there.vat r
        → made ≡ [] → InLane here there ref made delivered → LaneHolds here_then there_then ref made delivered
    new_place (import_ i) is (inl (p, export_, open_)) unmarked untold none unmade lane =
        inr
        (another_phase here there ref made mid inbox ms part.level delivered lane
        (unsettled (is_exported here there ref made mid inbox ms part.level i is none.0 unmade untold p export_ open_ unmarked)))
    new_place (import_ i) is (inr (k, export_)) unmarked untold none unmade lane =
        inl (hosted_there (is_hosted here there ref made mid inbox ms part.level i is none.0 unmade untold k export_))
    new_place (path_to q path) is new unmarked untold none unmade lane = absurd new

    absent_by : Absent here there ref made → InLane here there ref made delivered
        → IsAbsent here.vat mid ref ⊎ (IsNewPlace mid ref × (mark_of here.vat (cap_of ref) ≡ None) × (list_any (tells ref) (here.inbox ++ ms) ≡ false))
        → LaneHolds here_then there_then ref made delivered
    absent_by p lane (inl none) = inr (another_phase here there ref made mid inbox ms part.level delivered lane (absent (record { none = none; unmade = p.unmade })))
    absent_by p lane (inr new) = new_place ref refl new.0 new.1 new.2 p.none p.unmade lane

    -- its open place is settled
    module _ (gate : Gate) (before : List Message) (telling : Message) (after : List Message) (open_ : IsOpenPlace there.vat ref gate)
        (only : IsOnly ms (tells ref) before telling after) (closed : IsClosedPlace mid ref) where
      settled_at : (e : ℕ) (cap : Cap) → IsExport here.vat e cap → told_by ref telling ≡ Some (descriptors.ReceiverHosted e) → EndsAt mid (place_of mid ref) e → LeadsBack mid e gate
          → (p : Unsettled here there ref made) → InLane here there ref made delivered → LaneHolds here_then there_then ref made delivered
      settled_at e (caps.Object k) export_ says ends_ leads_ p lane =
          inr
          (another_phase here there ref made mid inbox ms part.level delivered lane
          (told (is_told here there ref made mid inbox ms part.level before after telling only k e export_ says ends_ p (subst (LeadsBack mid e) (sym (open_gate there.vat ref gate p.gate open_ p.open_)) leads_))))
      settled_at e caps.None export_ says ends_ leads_ p lane =
          inl (told_other (is_other here there ref made mid inbox ms part.level before after telling only closed (other_cap here.vat e caps.None export_ (λ is. is) (told_by ref telling) says) p))
      settled_at e (caps.Promise r) export_ says ends_ leads_ p lane =
          inl (told_other (is_other here there ref made mid inbox ms part.level before after telling only closed (other_cap here.vat e (caps.Promise r) export_ (λ is. is) (told_by ref telling) says) p))
      settled_at e (caps.Import i) export_ says ends_ leads_ p lane =
          inl (told_other (is_other here there ref made mid inbox ms part.level before after telling only closed (other_cap here.vat e (caps.Import i) export_ (λ is. is) (told_by ref telling) says) p))
      settled_at e (caps.Pipelined q path) export_ says ends_ leads_ p lane =
          inl (told_other (is_other here there ref made mid inbox ms part.level before after telling only closed (other_cap here.vat e (caps.Pipelined q path) export_ (λ is. is) (told_by ref telling) says) p))
      settled_at e (caps.Broken x) export_ says ends_ leads_ p lane =
          inl (told_other (is_other here there ref made mid inbox ms part.level before after telling only closed (other_cap here.vat e (caps.Broken x) export_ (λ is. is) (told_by ref telling) says) p))

      settled_by : IsToldRightly mid ref gate telling → (p : Unsettled here there ref made) → InLane here there ref made delivered
          → LaneHolds here_then there_then ref made delivered
      settled_by (inl other) p lane =
          inl (told_other (is_other here there ref made mid inbox ms part.level before after telling only closed (not_back here.vat (told_by ref telling) other) p))
      settled_by (inr (e, says, ends_, leads_)) p lane =
          let found = part.held_there e ends_ in settled_at e found.0 found.1 says ends_ leads_ p lane

      -- No other phase has an open place, but for that of a local question's path, or of one that isn't an own one.
      opens_not : (before : List Message) (m : Message) (after : List Message) → IsOnly there.inbox (opens_place ref) before m after
          → list_any (opens_place ref) there.inbox ≡ false → ⊥
      opens_not before m after only none = has_not (opens_place ref) before m after only.it (rw (only.all) at none)
        where
          has_not : (is : Message → Bool) (xs : List Message) (m : Message) (ys : List Message) → is m ≡ true → list_any is (xs ++ m ∷ ys) ≡ false → ⊥
          has_not is [] m ys it none = true≢false (rw it at none)
          has_not is (x ∷ xs) m ys it none = has_not is xs m ys it (any_taken is x (xs ++ m ∷ ys) none)

      on_calm : CalmThere here there ref made mid inbox ms → LaneHolds here there ref made delivered → LaneHolds here_then there_then ref made delivered
      on_calm calm lane = calm_there here there ref made mid inbox ms calm delivered (λ p l. absent_by p l (part.absent_ p.none)) lane

      settled_phase : IsToldRightly mid ref gate telling → Phase here there ref made → InLane here there ref made delivered
          → LaneHolds here_then there_then ref made delivered
      settled_phase right (unsettled p) lane = settled_by right p lane
      settled_phase right (absent p) lane = absent_by p lane (part.absent_ p.none)
      settled_phase right (unopened p) lane = absurd (opens_not p.before p.opening p.after p.only (part.not_opened gate open_))
      settled_phase right (told p) lane = open_ends there.vat ref gate p.number open_ p.ends
      settled_phase right (free p) lane = on_calm (calm_not (λ yet. not_yet here there ref p.object p.came made yet)) (inr lane)
      settled_phase right (marked p) lane = open_ends there.vat ref gate p.comes.number open_ p.comes.ends
      settled_phase right (embargoed p) lane = open_ends there.vat ref gate p.comes.number open_ p.comes.ends
      settled_phase right (echoed p) lane = open_ends there.vat ref gate p.comes.number open_ p.comes.ends
      settled_phase right (local_open p) lane = on_calm (calm_not (λ yet. local_not_yet here.vat ref made p.gate p.open_ yet)) (inr lane)

      settled_elsewhere : IsElsewhere here there ref made → LaneHolds here_then there_then ref made delivered
      settled_elsewhere (came_to_other p) = inl (came_to_other p)
      settled_elsewhere (told_other p) = open_closed there.vat ref gate open_ p.closed
      settled_elsewhere (hosted_there p) = open_hosted there.vat ref gate open_ p.hosted

      settled_lane : IsToldRightly mid ref gate telling → LaneHolds here there ref made delivered → LaneHolds here_then there_then ref made delivered
      settled_lane right (inl elsewhere) = settled_elsewhere elsewhere
      settled_lane right (inr lane) = settled_phase right lane.phase lane

    -- The lane holds on.
    part_by : PlaceStep there.vat mid ref ms → LaneHolds here there ref made delivered → LaneHolds here_then there_then ref made delivered
    part_by (stays open_ untold) lane =
        calm_there here there ref made mid inbox ms (calm_by (λ yet. open_) (λ yet. untold)) delivered (λ p l. absent_by p l (part.absent_ p.none)) lane
    part_by (settles gate before telling after open_ only closed right) lane = settled_lane gate before telling after open_ only closed right lane

    pub part_there : LaneHolds here there ref made delivered → LaneHolds here_then there_then ref made delivered
    part_there lane = part_by part.place lane
