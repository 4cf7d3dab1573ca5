-- Values that only grow keep routes as they are.
use Rattle.std.specs.Prelude.{◌≡◌, refl, ℕ, zero, suc, ◌≤◌, ◌==◌, Bool, true, false, List, Option, Some, None, is_some}
use Rattle.std.specs.FinMap.{get, insert}
use Rattle.std.proofs.Common.{inl, ap, sym, ◌∙◌, true≢false}
use Rattle.cp_tables.specs.Table.{Table}
use Rattle.cp_refs.specs.At.{cap_at}
use Rattle.cp_refs.specs.Route.{promise_way, question_way, outcome_way, route_by, route_within, Routes}
use Rattle.cp_refs.specs.Values.{ValueMaps}
use Rattle.cp_refs.specs.declared.cap.Cap.{Cap}
use Rattle.cp_refs.specs.declared.cap.Cap.TheVariants as caps
use Rattle.cp_refs.specs.declared.outcome.Outcome.{Outcome}
use Rattle.cp_refs.specs.declared.route.Gate.{Gate}
use Rattle.cp_refs.specs.declared.route.Route.{Route}
use Rattle.cp_refs.specs.declared.values.QuestionState.{QuestionState}
use Rattle.cp_vat_machine.specs.State.{State, none_over, gave}
use Rattle.cp_vat_machine.specs.Calling.{Standing, plain, on_wire, came_to, import_reference, question_reference, reference_of, mark_of}
use Rattle.cp_vat_machine.specs.Ports.{Name, answer_path, capability, AnswerRoute, ReferenceRoute, NameRoute, is_there}
use Rattle.cp_vat_laws.specs.OrderKept.{FitsMark, is_off_wire}
use Rattle.cp_vat_machine.proofs.Basics.{some_out, none_out, is_equal, put_at}
use Rattle.cp_vat_laws.proofs.order.Passes.{Opens, Slot, Passes, outcome_of}
use Rattle.cp_vat_laws.proofs.order.Rest.{none_gave}

-- what was there is as it was
pub record GrowsTo (values new : ValueMaps) : Type 0 where
  pub promises : (p : ℕ) (x : Option Cap) → get values.promises p ≡ Some x → get new.promises p ≡ Some x
  pub imports : (i : ℕ) (x : Option Cap) → get values.imports i ≡ Some x → get new.imports i ≡ Some x
  pub answers : (a : ℕ) (x : Option Outcome) → get values.answers a ≡ Some x → get new.answers a ≡ Some x
  pub questions : (q : ℕ) (x : QuestionState) → get values.questions q ≡ Some x → get new.questions q ≡ Some x

-- a free number is taken
pub put_grows : {X : Type 0} (table : Table X) (k : ℕ) (v : X) → get table k ≡ None → (q : ℕ) (x : X) → get table q ≡ Some x → get (insert table k v) q ≡ Some x
put_grows table k v free q x is = by (k == q) refl
  where
    by : (b : Bool) → (k == q) ≡ b → get (insert table k v) q ≡ Some x
    by true e = none_out (sym free ∙ ap (λ n. get table n) (is_equal k q e) ∙ is)
    by false e = put_at table k q v false e ∙ is

module _ (values new : ValueMaps) (grows : GrowsTo values new) where
  promise_grows : (n p : ℕ) (r : Route) → ((c : Cap) → route_within n values c ≡ Some r → route_within n new c ≡ Some r) → (o : Option (Option Cap)) → get values.promises p ≡ o
      → route_by (λ next. route_within n values next) (promise_way p o) ≡ Some r → route_by (λ next. route_within n new next) (promise_way p (get new.promises p)) ≡ Some r
  promise_grows n p r more None is e = none_out e
  promise_grows n p r more (Some None) is e = rw (grows.promises p None is) e
  promise_grows n p r more (Some (Some v)) is e = rw (grows.promises p (Some v) is) (more v e)

  outcome_grows : (n q : ℕ) (path : List ℕ) (r : Route) → ((c : Cap) → route_within n values c ≡ Some r → route_within n new c ≡ Some r) → (question : QuestionState)
      → (o : Option Outcome) → route_by (λ next. route_within n values next) (outcome_way question.kind q path o) ≡ Some r
      → route_by (λ next. route_within n new next) (outcome_way question.kind q path o) ≡ Some r
  outcome_grows n q path r more question None e = e
  outcome_grows n q path r more question (Some outcome) e = more (cap_at outcome path) e

  question_grows : (n q : ℕ) (path : List ℕ) (r : Route) → ((c : Cap) → route_within n values c ≡ Some r → route_within n new c ≡ Some r) → (o : Option QuestionState)
      → get values.questions q ≡ o → route_by (λ next. route_within n values next) (question_way q path o) ≡ Some r
      → route_by (λ next. route_within n new next) (question_way q path (get new.questions q)) ≡ Some r
  question_grows n q path r more None is e = none_out e
  question_grows n q path r more (Some question) is e = rw (grows.questions q question is) (outcome_grows n q path r more question question.outcome e)

  grow_within : (n : ℕ) (c : Cap) (r : Route) → route_within n values c ≡ Some r → route_within n new c ≡ Some r
  grow_within zero c r e = none_out e
  grow_within (suc n) caps.None r e = e
  grow_within (suc n) (caps.Object k) r e = e
  grow_within (suc n) (caps.Promise p) r e = promise_grows n p r (λ c k. grow_within n c r k) (get values.promises p) refl e
  grow_within (suc n) (caps.Import i) r e = e
  grow_within (suc n) (caps.Pipelined q path) r e = question_grows n q path r (λ c k. grow_within n c r k) (get values.questions q) refl e
  grow_within (suc n) (caps.Broken x) r e = e

  pub grow_routes : (c : Cap) (r : Route) → Routes values c r → Routes new c r
  grow_routes c r h = (h.0, grow_within h.0 c r h.1)

  answer_grows : (a : ℕ) (path : List ℕ) (r : Route) (o : Option (Option Outcome)) → get values.answers a ≡ o → AnswerRoute values a path o r
      → AnswerRoute new a path (get new.answers a) r
  answer_grows a path r None is h = absurd h
  answer_grows a path r (Some None) is h = rw (grows.answers a None is) h
  answer_grows a path r (Some (Some outcome)) is h = rw (grows.answers a (Some outcome) is) (grow_routes (cap_at outcome path) r h)

  by_reference : (c : Cap) (reference : Standing) (r : Route) → ReferenceRoute values c reference r → ReferenceRoute new c reference r
  by_reference c plain r h = grow_routes c r h
  by_reference c on_wire r h = grow_routes c r h
  by_reference c (came_to value) r h = grow_routes value r h

  import_same : (i : ℕ) (o : Option (Option Cap)) → get values.imports i ≡ o → is_some o ≡ true → import_reference (get new.imports i) ≡ import_reference o
  import_same i None is there = absurd (true≢false (sym there))
  import_same i (Some x) is there = ap import_reference (grows.imports i x is)

  path_same : (q : ℕ) (path : List ℕ) (o : Option QuestionState) → get values.questions q ≡ o → is_some o ≡ true → question_reference path (get new.questions q) ≡ question_reference path o
  path_same q path None is there = absurd (true≢false (sym there))
  path_same q path (Some x) is there = ap (question_reference path) (grows.questions q x is)

  -- so what a call names stays what it was
  pub reference_same : (c : Cap) → is_there values (capability c) ≡ true → reference_of new c ≡ reference_of values c
  reference_same caps.None there = refl
  reference_same (caps.Object k) there = refl
  reference_same (caps.Promise p) there = refl
  reference_same (caps.Import i) there = import_same i (get values.imports i) refl there
  reference_same (caps.Pipelined q path) there = path_same q path (get values.questions q) refl there
  reference_same (caps.Broken x) there = refl

  pub grow_name : (name : Name) (r : Route) → is_there values name ≡ true → NameRoute values name r → NameRoute new name r
  grow_name (answer_path a path) r there h = answer_grows a path r (get values.answers a) refl h
  grow_name (capability c) r there h = rw (reference_same c there) (by_reference c (reference_of values c) r h)

  some_grows : {X : Type 0} (o p : Option X) → ((x : X) → o ≡ Some x → p ≡ Some x) → is_some o ≡ true → is_some p ≡ true
  some_grows None p h some = absurd (true≢false (sym some))
  some_grows (Some x) p h some = ap is_some (h x refl)

  pub grow_there : (name : Name) → is_there values name ≡ true → is_there new name ≡ true
  grow_there (answer_path a path) there = some_grows (get values.answers a) (get new.answers a) (grows.answers a) there
  grow_there (capability caps.None) there = refl
  grow_there (capability (caps.Object k)) there = refl
  grow_there (capability (caps.Promise p)) there = some_grows (get values.promises p) (get new.promises p) (grows.promises p) there
  grow_there (capability (caps.Import i)) there = some_grows (get values.imports i) (get new.imports i) (grows.imports i) there
  grow_there (capability (caps.Pipelined q path)) there = some_grows (get values.questions q) (get new.questions q) (grows.questions q) there
  grow_there (capability (caps.Broken x)) there = refl

slot_grows : {X : Type 0} (o p : Option (Option X)) (x y : Option X) → ((v : Option X) → o ≡ Some v → p ≡ Some v) → y ≡ x → Slot o p x y
slot_grows o p x y h over = record { over = λ v e. over ∙ e; set = λ v e some. h (Some v) e; open_ = λ e none some. inl (h None e, over ∙ none) }

outcome_grown : (o p : Option QuestionState) → ((x : QuestionState) → o ≡ Some x → p ≡ Some x) → (v : Option Outcome) → outcome_of o ≡ Some v → outcome_of p ≡ Some v
outcome_grown None p h v e = none_out e
outcome_grown (Some x) p h v e = ap outcome_of (h x refl) ∙ e

-- A turn's part in which values only grow, and embargoes and what is over stay.
pub grows_passes : (old mid : State) → GrowsTo old.values mid.values → mid.waiting.over ≡ old.waiting.over
    → ((n : ℕ) (v : Cap) → get old.marks.embargoes n ≡ Some v → get mid.marks.embargoes n ≡ Some v)
    → ((c : Cap) (g : Gate) → is_there old.values (capability c) ≡ true → is_off_wire (reference_of old.values c) ≡ true → FitsMark old (mark_of old c) g → FitsMark mid (mark_of mid c) g)
    → old.next_ticket ≤ mid.next_ticket → Passes old mid
grows_passes old mid grows over embargoes marks next =
    record {
      promises = λ p. slot_grows _ _ _ _ (grows.promises p) (ap (λ o. get o.promises p) over);
      answers = λ a. slot_grows _ _ _ _ (grows.answers a) (ap (λ o. get o.answers a) over);
      questions =
          λ q.
          slot_grows _ _ _ _ (outcome_grown (get old.values.questions q) (get mid.values.questions q) (grows.questions q)) (ap (λ o. get o.questions q) over);
      kinds = λ q one other is there. ap (λ x. x.kind) (some_out (sym there ∙ grows.questions q one is));
      imports = λ i v is some. grows.imports i (Some v) is;
      embargoes = λ n v is none. inl (embargoes n v is, ap (λ o. get o.embargoes n) over ∙ none);
      ended = λ n v is. ap (λ o. get o.embargoes n) over ∙ is;
      marks = λ c g there found off fits. marks c g there off fits;
      next = next;
    }

-- where nothing is over, nothing that is open is
pub opens_none : (s : State) → s.waiting.over ≡ none_over → Opens s
opens_none s none =
    record {
      open_promises = λ p is. ap (λ o. gave o (Rattle.cp_refs.specs.declared.route.Gate.TheVariants.Promise p)) none ∙ none_gave (Rattle.cp_refs.specs.declared.route.Gate.TheVariants.Promise p);
      open_answers = λ a is. ap (λ o. get o.answers a) none ∙ Rattle.std.specs.FinMap.get-empty {X = Outcome} Rattle.std.specs.Ordering.nat_cmp a;
      open_questions = λ q question is open_. ap (λ o. get o.questions q) none ∙ Rattle.std.specs.FinMap.get-empty {X = Outcome} Rattle.std.specs.Ordering.nat_cmp q;
    }
