-- A turn that changes no value, gate or mark; and where the ways of kept values end.
use Rattle.std.specs.Prelude.{◌≡◌, refl, ℕ, zero, suc, ◌≤◌, false, ◌∷◌, Option, Some, None}
use Rattle.std.specs.FinMap.{get}
use Rattle.std.proofs.Common.{inl, ap, subst, sym, ◌∙◌, true≢false}
use Rattle.cp_refs.specs.Route.{promise_way, route_by, route_within, Routes}
use Rattle.cp_refs.specs.Values.{ValueMaps}
use Rattle.cp_refs.specs.declared.cap.Cap.{Cap}
use Rattle.cp_refs.specs.declared.cap.Cap.TheVariants as caps
use Rattle.cp_refs.specs.declared.route.Gate.{Gate}
use Rattle.cp_refs.specs.declared.route.Gate.TheVariants as gates
use Rattle.cp_refs.specs.declared.route.Route.{Route}
use Rattle.cp_refs.specs.declared.route.Route.TheVariants as routes
use Rattle.cp_vat_machine.specs.State.{State, gave}
use Rattle.cp_vat_machine.specs.InUse.{is_pipelined}
use Rattle.cp_vat_machine.specs.Calling.{mark_of}
use Rattle.cp_vat_machine.specs.Ports.{KeptRoute}
use Rattle.cp_vat_laws.specs.OrderKept.{IsFree, FitsMark}
use Rattle.cp_vat_machine.proofs.Basics.{some_out, none_out}
use Rattle.cp_vat_laws.proofs.order.Passes.{Sound, Slot, Passes, outcome_of}

pub same_slot : {X : Type 0} (o p : Option (Option X)) (x y : Option X) → p ≡ o → y ≡ x → Slot o p x y
same_slot o p x y same over =
    record { over = λ v e. over ∙ e; set = λ v e some. same ∙ e; open_ = λ e none some. inl (same ∙ e, over ∙ none) }

free_same : (old mid : State) (g : Gate) → mid.waiting.over.embargoes ≡ old.waiting.over.embargoes → IsFree old g → IsFree mid g
free_same old mid (gates.Answer a path) over h = h
free_same old mid (gates.Promise p) over h = h
free_same old mid (gates.Question q path) over h = h
free_same old mid (gates.Embargo n) over h = rw (over) h

pub fits_same : (old mid : State) (mark : Option (Option ℕ)) (g : Gate) → mid.waiting.over.embargoes ≡ old.waiting.over.embargoes → FitsMark old mark g → FitsMark mid mark g
fits_same old mid None g over h = free_same old mid g over h
fits_same old mid (Some None) g over h = h
fits_same old mid (Some (Some n)) g over h = (h.0, rw (over) h.1)

pub mark_same : (old mid : State) (c : Cap) → mid.marks ≡ old.marks → mark_of mid c ≡ mark_of old c
mark_same old mid caps.None same = refl
mark_same old mid (caps.Object k) same = refl
mark_same old mid (caps.Promise p) same = refl
mark_same old mid (caps.Import i) same = ap (λ m. get m.imports i) same
mark_same old mid (caps.Pipelined q path) same = ap (λ m. get m.paths (q ∷ path)) same
mark_same old mid (caps.Broken x) same = refl

-- what fits a mark goes on to do so, where marks stay and no other embargo is over
pub marks_same : (old mid : State) (c : Cap) (g : Gate) → mid.marks ≡ old.marks → mid.waiting.over.embargoes ≡ old.waiting.over.embargoes → FitsMark old (mark_of old c) g
    → FitsMark mid (mark_of mid c) g
marks_same old mid c g marks over fits = rw (mark_same old mid c marks) (fits_same old mid (mark_of old c) g over fits)

-- Nothing changes that waiting calls look at.
pub same_passes : (old mid : State) → mid.values ≡ old.values → mid.waiting.over ≡ old.waiting.over → mid.marks ≡ old.marks → old.next_ticket ≤ mid.next_ticket → Passes old mid
same_passes old mid values over marks next =
    record {
      promises = λ p. same_slot _ _ _ _ (ap (λ v. get v.promises p) values) (ap (λ o. get o.promises p) over);
      answers = λ a. same_slot _ _ _ _ (ap (λ v. get v.answers a) values) (ap (λ o. get o.answers a) over);
      questions = λ q. same_slot _ _ _ _ (ap (λ v. outcome_of (get v.questions q)) values) (ap (λ o. get o.questions q) over);
      kinds = λ q one other is there. ap (λ x. x.kind) (some_out (sym there ∙ ap (λ v. get v.questions q) values ∙ is));
      imports = λ i v is some. ap (λ x. get x.imports i) values ∙ is;
      embargoes = λ n v is none. inl (ap (λ m. get m.embargoes n) marks ∙ is, ap (λ o. get o.embargoes n) over ∙ none);
      ended = λ n v is. ap (λ o. get o.embargoes n) over ∙ is;
      marks = λ c g there found off fits. marks_same old mid c g marks (ap (λ o. o.embargoes) over) fits;
      next = next;
    }

-- The way of a kept value ends at an open promise, if it waits, and never at a question's path.
abbrev pub EndsWell : ValueMaps → Route → Type 0
EndsWell values (routes.Wait (gates.Promise p)) = get values.promises p ≡ Some None
EndsWell values (routes.Wait other) = ⊥
EndsWell values (routes.Pipe q path) = ⊥
EndsWell values other = Unit {0}

module _ (s : State) (sound : Sound s) where
  promise_well : (n p : ℕ) (r : Route) → ((v : Cap) → is_pipelined v ≡ false → route_within n s.values v ≡ Some r → EndsWell s.values r) → (o : Option (Option Cap))
      → get s.values.promises p ≡ o → route_by (λ next. route_within n s.values next) (promise_way p o) ≡ Some r → EndsWell s.values r
  promise_well n p r more None is e = none_out e
  promise_well n p r more (Some None) is e = subst (EndsWell s.values) (some_out e) is
  promise_well n p r more (Some (Some v)) is e = more v (sound.promises p v is).plain_ e

  well_within : (n : ℕ) (c : Cap) (r : Route) → is_pipelined c ≡ false → route_within n s.values c ≡ Some r → EndsWell s.values r
  well_within zero c r flat e = none_out e
  well_within (suc n) caps.None r flat e = subst (EndsWell s.values) (some_out e) tt
  well_within (suc n) (caps.Object k) r flat e = subst (EndsWell s.values) (some_out e) tt
  well_within (suc n) (caps.Promise p) r flat e = promise_well n p r (λ v plain k. well_within n v r plain k) (get s.values.promises p) refl e
  well_within (suc n) (caps.Import i) r flat e = subst (EndsWell s.values) (some_out e) tt
  well_within (suc n) (caps.Pipelined q path) r flat e = absurd (true≢false flat)
  well_within (suc n) (caps.Broken x) r flat e = subst (EndsWell s.values) (some_out e) tt

  pub ends_well : (c : Cap) (r : Route) → is_pipelined c ≡ false → Routes s.values c r → EndsWell s.values r
  ends_well c r flat h = well_within h.0 c r flat h.1

  -- so a gate to which it leads isn't over, and is no embargo
  pub waits_well : (g : Gate) → EndsWell s.values (routes.Wait g) → (gave s.waiting.over g ≡ None) × ((n : ℕ) → g ≡ gates.Embargo n → ⊥)
  waits_well (gates.Answer a path) h = absurd h
  waits_well (gates.Promise p) h = (sound.opens.open_promises p h, λ n e. never n e)
    where
      never : (n : ℕ) → gates.Promise p ≡ gates.Embargo n → ⊥
      never n e = cc
  waits_well (gates.Question q path) h = absurd h
  waits_well (gates.Embargo n) h = absurd h

-- a route that doesn't wait
abbrev pub IsGoing : Route → Type 0
IsGoing (routes.Wait g) = ⊥
IsGoing other = Unit {0}

pub going_kept : (s : State) (r : Route) → IsGoing r → KeptRoute s r r
going_kept s (routes.Deliver k) h = refl
going_kept s (routes.Import i) h = refl
going_kept s (routes.Pipe q path) h = refl
going_kept s (routes.Wait g) h = absurd h
going_kept s (routes.Fail x) h = refl
