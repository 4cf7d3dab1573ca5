-- Where calls wait on after a turn: values are given and kept, and no open one goes without its gate being over.
use Rattle.std.specs.Prelude.{◌≡◌, ◌⊎◌, refl, ℕ, zero, suc, ◌≤◌, Bool, true, false, List, Option, Some, None, is_some}
use Rattle.std.specs.Option.{option_map}
use Rattle.std.specs.FinMap.{get}
use Rattle.std.proofs.Common.{inl, inr, ap, sym, ◌∙◌, true≢false}
use Rattle.cp_refs.specs.At.{cap_at}
use Rattle.cp_refs.specs.Route.{promise_way, outcome_way, question_way, route_by, route_within, Routes, HasRoute}
use Rattle.cp_refs.specs.Values.{ValueMaps}
use Rattle.cp_refs.specs.declared.cap.Cap.{Cap}
use Rattle.cp_refs.specs.declared.cap.Cap.TheVariants as caps
use Rattle.cp_refs.specs.declared.outcome.Outcome.{Outcome}
use Rattle.cp_refs.specs.declared.route.Gate.{Gate}
use Rattle.cp_refs.specs.declared.route.Gate.TheVariants as gates
use Rattle.cp_refs.specs.declared.route.Route.{Route}
use Rattle.cp_refs.specs.declared.route.Route.TheVariants as routes
use Rattle.cp_refs.specs.declared.values.QuestionState.{QuestionState}
use Rattle.cp_refs.specs.declared.values.QuestionKind.{QuestionKind}
use Rattle.cp_refs.specs.declared.values.QuestionKind.TheVariants as kinds
use Rattle.cp_vat_machine.specs.State.{State, gave}
use Rattle.cp_vat_machine.specs.InUse.{is_pipelined}
use Rattle.cp_vat_machine.specs.Calling.{path_reference, question_reference, reference_of, mark_of}
use Rattle.cp_vat_machine.specs.Ports.{capability, KeptRoute, is_there}
use Rattle.cp_vat_laws.specs.OrderKept.{FitsMark, is_off_wire}
use Rattle.cp_vat_machine.proofs.Basics.{some_out, none_out}

-- A value that is kept: no question's path, its promise is there, and its way ends.
abbrev pub is_found : ValueMaps → Cap → Bool
is_found values (caps.Promise p) = is_some (get values.promises p)
is_found values other = true

pub record IsKept (s : State) (c : Cap) : Type 0 where
  pub plain_ : is_pipelined c ≡ false
  pub found : is_found s.values c ≡ true
  pub ends : HasRoute s.values c

-- an object or a promise of this end
abbrev pub IsOfThisEnd : Cap → Type 0
IsOfThisEnd (caps.Object k) = Unit {0}
IsOfThisEnd (caps.Promise p) = Unit {0}
IsOfThisEnd other = ⊥

-- What is open isn't over.
pub record Opens (s : State) : Type 0 where
  pub open_promises : (p : ℕ) → get s.values.promises p ≡ Some None → get s.waiting.over.promises p ≡ None
  pub open_answers : (a : ℕ) → get s.values.answers a ≡ Some None → get s.waiting.over.answers a ≡ None
  pub open_questions : (q : ℕ) (question : QuestionState) → get s.values.questions q ≡ Some question → question.outcome ≡ None → get s.waiting.over.questions q ≡ None

-- What holds of the values of a vat: each is kept well, and what is open isn't over.
pub record Sound (s : State) : Type 0 where
  pub promises : (p : ℕ) (v : Cap) → get s.values.promises p ≡ Some (Some v) → IsKept s v
  pub imports : (i : ℕ) (v : Cap) → get s.values.imports i ≡ Some (Some v) → IsKept s v
  pub answers : (a : ℕ) (o : Outcome) (path : List ℕ) → get s.values.answers a ≡ Some (Some o) → IsKept s (cap_at o path)
  pub questions : (q : ℕ) (question : QuestionState) (o : Outcome) (path : List ℕ) → get s.values.questions q ≡ Some question → question.outcome ≡ Some o → IsKept s (cap_at o path)
  pub gifts : (g : Gate) (c : Cap) → gave s.waiting.over g ≡ Some c → IsKept s c
  pub embargoes : (n : ℕ) (v : Cap) → get s.marks.embargoes n ≡ Some v → IsOfThisEnd v × (is_found s.values v ≡ true) × HasRoute s.values v
  pub opens : Opens s

-- What a turn does to one value: it stays, or is given, and then its gate is over; or it goes.
abbrev pub IsStillOpen : {X : Type 0} → Option (Option X) → Option X → Type 0
IsStillOpen new after = (new ≡ Some None) × (after ≡ None)

abbrev pub IsGiven : {X : Type 0} → Option (Option X) → Option X → Type 0
IsGiven {X} new after = (x : X) × (is_some new ≡ true → new ≡ Some (Some x)) × (after ≡ Some x)

pub record Slot {X : Type 0} (old new : Option (Option X)) (before after : Option X) : Type 0 where
  pub over : (x : X) → before ≡ Some x → after ≡ Some x
  pub set : (x : X) → old ≡ Some (Some x) → is_some new ≡ true → new ≡ Some (Some x)
  pub open_ : old ≡ Some None → before ≡ None → is_some new ≡ true → IsStillOpen new after ⊎ IsGiven new after

abbrev pub outcome_of : Option QuestionState → Option (Option Outcome)
outcome_of o = option_map (λ question. question.outcome) o

-- an embargo stays, or it is over and gave what it led to
abbrev pub StaysOrEnds : State → ℕ → Cap → Type 0
StaysOrEnds s n v = ((get s.marks.embargoes n ≡ Some v) × (get s.waiting.over.embargoes n ≡ None)) ⊎ (get s.waiting.over.embargoes n ≡ Some v)

-- What a turn does to all of them.
pub record Passes (old mid : State) : Type 0 where
  pub promises : (p : ℕ) → Slot (get old.values.promises p) (get mid.values.promises p) (get old.waiting.over.promises p) (get mid.waiting.over.promises p)
  pub answers : (a : ℕ) → Slot (get old.values.answers a) (get mid.values.answers a) (get old.waiting.over.answers a) (get mid.waiting.over.answers a)
  pub questions : (q : ℕ)
      → Slot (outcome_of (get old.values.questions q)) (outcome_of (get mid.values.questions q)) (get old.waiting.over.questions q) (get mid.waiting.over.questions q)
  pub kinds : (q : ℕ) (one other : QuestionState) → get old.values.questions q ≡ Some one → get mid.values.questions q ≡ Some other → other.kind ≡ one.kind
  pub imports : (i : ℕ) (v : Cap) → get old.values.imports i ≡ Some (Some v) → is_some (get mid.values.imports i) ≡ true → get mid.values.imports i ≡ Some (Some v)
  pub embargoes : (n : ℕ) (v : Cap) → get old.marks.embargoes n ≡ Some v → get old.waiting.over.embargoes n ≡ None → StaysOrEnds mid n v
  pub ended : (n : ℕ) (v : Cap) → get old.waiting.over.embargoes n ≡ Some v → get mid.waiting.over.embargoes n ≡ Some v
  pub marks : (c : Cap) (g : Gate) → is_there old.values (capability c) ≡ true → is_there mid.values (capability c) ≡ true
      → is_off_wire (reference_of old.values c) ≡ true → FitsMark old (mark_of old c) g → FitsMark mid (mark_of mid c) g
  pub next : old.next_ticket ≤ mid.next_ticket

pub outcome_out : (o : Option QuestionState) (question : QuestionState) (x : Option Outcome) → o ≡ Some question → question.outcome ≡ x → outcome_of o ≡ Some x
outcome_out o question x is e = rw (is) (ap (λ y. Some y) e)

-- a question with this outcome
pub outcome_in : (o : Option QuestionState) (x : Option Outcome) → outcome_of o ≡ Some x → (question : QuestionState) × (o ≡ Some question) × (question.outcome ≡ x)
outcome_in None x e = none_out e
outcome_in (Some question) x e = (question, refl, some_out e)

pub some_outcome : (o : Option QuestionState) → is_some o ≡ true → is_some (outcome_of o) ≡ true
some_outcome None e = e
some_outcome (Some question) e = refl

-- The route of a kept capability moves as a route that is kept.
module _ (old mid : State) (opens : Opens old) (later : Sound mid) (passes : Passes old mid) where
  promise_waited : (p : ℕ) (to : Route) → get old.values.promises p ≡ Some None → is_some (get mid.values.promises p) ≡ true
      → KeptRoute mid (routes.Wait (gates.Promise p)) to → Routes mid.values (caps.Promise p) to
  promise_waited p to is found k = by ((passes.promises p).open_ is (opens.open_promises p is) found)
    where
      by : IsStillOpen (get mid.values.promises p) (get mid.waiting.over.promises p) ⊎ IsGiven (get mid.values.promises p) (get mid.waiting.over.promises p)
          → Routes mid.values (caps.Promise p) to
      by (inl h) = let is_wait : to ≡ routes.Wait (gates.Promise p) = rw (h.1) at k in (1, rw (h.0) (ap (λ y. Some y) (sym is_wait)))
      by (inr h) = let way : Routes mid.values h.0 to = rw (h.2) at k in (suc way.0, rw (h.1 found) way.1)

  promise_by : (n p : ℕ) (r to : Route) → is_some (get mid.values.promises p) ≡ true → KeptRoute mid r to
      → ((v : Cap) → is_pipelined v ≡ false → is_found mid.values v ≡ true → route_within n old.values v ≡ Some r → Routes mid.values v to)
      → (o : Option (Option Cap)) → get old.values.promises p ≡ o → route_by (λ next. route_within n old.values next) (promise_way p o) ≡ Some r
      → Routes mid.values (caps.Promise p) to
  promise_by n p r to found kept more None is h = none_out h
  promise_by n p r to found kept more (Some None) is h = promise_waited p to is found (rw (← some_out h) at kept)
  promise_by n p r to found kept more (Some (Some v)) is h =
      let set = (passes.promises p).set v is found in
      let well = later.promises p v set in
      let way = more v well.plain_ well.found h in
      (suc way.0, rw (set) way.1)

  plain_follows : (n : ℕ) (c : Cap) (r to : Route) → is_pipelined c ≡ false → is_found mid.values c ≡ true → route_within n old.values c ≡ Some r → KeptRoute mid r to
      → Routes mid.values c to
  plain_follows zero c r to flat found e k = none_out e
  plain_follows (suc n) caps.None r to flat found e kept = (1, ap (λ y. Some y) (sym (rw (← some_out e) at kept)))
  plain_follows (suc n) (caps.Object k) r to flat found e kept = (1, ap (λ y. Some y) (sym (rw (← some_out e) at kept)))
  plain_follows (suc n) (caps.Promise p) r to flat found e kept =
      promise_by n p r to found kept (λ v flat there h. plain_follows n v r to flat there h kept) (get old.values.promises p) refl e
  plain_follows (suc n) (caps.Import i) r to flat found e kept = (1, ap (λ y. Some y) (sym (rw (← some_out e) at kept)))
  plain_follows (suc n) (caps.Pipelined q path) r to flat found e kept = absurd (true≢false flat)
  plain_follows (suc n) (caps.Broken x) r to flat found e kept = (1, ap (λ y. Some y) (sym (rw (← some_out e) at kept)))

  pub follows : (c : Cap) (r to : Route) → is_pipelined c ≡ false → is_found mid.values c ≡ true → Routes old.values c r → KeptRoute mid r to → Routes mid.values c to
  follows c r to flat found way kept = plain_follows way.0 c r to flat found way.1 kept

  -- So does that of a question's path, but where the question is open on the wire.
  path_given : (q : ℕ) (path : List ℕ) (to : Route) (o : Outcome) → outcome_of (get mid.values.questions q) ≡ Some (Some o) → Routes mid.values (cap_at o path) to
      → Routes mid.values (caps.Pipelined q path) to
  path_given q path to o is way =
      let there = outcome_in (get mid.values.questions q) (Some o) is in
      (suc way.0, rw (there.1, there.2) way.1)

  path_open : (q : ℕ) (path : List ℕ) (to : Route) (question : QuestionState) → get old.values.questions q ≡ Some question → question.kind ≡ kinds.Local → question.outcome ≡ None
      → is_some (get mid.values.questions q) ≡ true → KeptRoute mid (routes.Wait (gates.Question q path)) to → Routes mid.values (caps.Pipelined q path) to
  path_open q path to question is local none found kept =
      by ((passes.questions q).open_ (outcome_out (get old.values.questions q) question None is none) (opens.open_questions q question is none) (some_outcome (get mid.values.questions q) found))
    where
      by : IsStillOpen (outcome_of (get mid.values.questions q)) (get mid.waiting.over.questions q)
          ⊎ IsGiven (outcome_of (get mid.values.questions q)) (get mid.waiting.over.questions q) → Routes mid.values (caps.Pipelined q path) to
      by (inl h) =
          let there = outcome_in (get mid.values.questions q) None h.0 in
          let kind : there.0.kind ≡ kinds.Local = passes.kinds q question there.0 is there.1 ∙ local in
          let is_wait : to ≡ routes.Wait (gates.Question q path) = rw (h.1) at kept in
          (1, rw (there.1, there.2, kind) (ap (λ y. Some y) (sym is_wait)))
      by (inr h) =
          let way : Routes mid.values (cap_at h.0 path) to = rw (h.2) at kept in
          path_given q path to h.0 (h.1 (some_outcome (get mid.values.questions q) found)) way

  path_by : (n q : ℕ) (path : List ℕ) (r to : Route) (question : QuestionState) → get old.values.questions q ≡ Some question → is_some (get mid.values.questions q) ≡ true
      → KeptRoute mid r to → (kind : QuestionKind) (x : Option Outcome) → question.kind ≡ kind → question.outcome ≡ x → is_off_wire (path_reference path kind x) ≡ true
      → route_by (λ next. route_within n old.values next) (outcome_way kind q path x) ≡ Some r → Routes mid.values (caps.Pipelined q path) to
  path_by n q path r to question is found kept kinds.Wire None kind none off e = absurd (true≢false (sym off))
  path_by n q path r to question is found kept kinds.Local None kind none off e = path_open q path to question is kind none found (rw (← some_out e) at kept)
  path_by n q path r to question is found kept kind (Some o) same given off e =
      let set = (passes.questions q).set o (outcome_out (get old.values.questions q) question (Some o) is given) (some_outcome (get mid.values.questions q) found) in
      let there = outcome_in (get mid.values.questions q) (Some o) set in
      let well = later.questions q there.0 o path there.1 there.2 in
      path_given q path to o set (plain_follows n (cap_at o path) r to well.plain_ well.found e kept)

  question_by : (n q : ℕ) (path : List ℕ) (r to : Route) → is_some (get mid.values.questions q) ≡ true → KeptRoute mid r to → (o : Option QuestionState)
      → get old.values.questions q ≡ o → is_off_wire (question_reference path o) ≡ true
      → route_by (λ next. route_within n old.values next) (question_way q path o) ≡ Some r → Routes mid.values (caps.Pipelined q path) to
  question_by n q path r to found kept None is off e = none_out e
  question_by n q path r to found kept (Some question) is off e =
      path_by n q path r to question is found kept question.kind question.outcome refl refl off e

  pub path_follows : (n q : ℕ) (path : List ℕ) (r to : Route) → is_off_wire (reference_of old.values (caps.Pipelined q path)) ≡ true
      → is_some (get mid.values.questions q) ≡ true → route_within n old.values (caps.Pipelined q path) ≡ Some r → KeptRoute mid r to
      → Routes mid.values (caps.Pipelined q path) to
  path_follows zero q path r to off found e kept = none_out e
  path_follows (suc n) q path r to off found e kept = question_by n q path r to found kept (get old.values.questions q) refl off e
