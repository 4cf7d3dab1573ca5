-- What capabilities come to, and where calls on them go, is within the sizes.
use Rattle.std.proofs.Common.{◌≡◌, ℕ, zero, suc, leb, ◌&&◌, Bool, true, false, true≢false, List, [], ◌∷◌, length, Option, Some, None, IfSome, refl, sym, ap, subst}
use Rattle.std.specs.Prelude.{slice_index_or}
use Rattle.std.specs.List.{list_all}
use Rattle.std.specs.FinMap.{get}
use Rattle.cp_tree.specs.Node.{Node, null, cap, struct, list, ptrs, structs}
use Rattle.cp_refs.specs.At.{cap_in, cap_at, node_along}
use Rattle.cp_refs.specs.Route.{Way, ends, leads, missing, way, promise_way, outcome_way, question_way, open_way, route_by, route_within, Routes}
use Rattle.cp_refs.specs.Values.{ValueMaps}
use Rattle.cp_refs.specs.declared.cap.Cap.{Cap}
use Rattle.cp_refs.specs.declared.cap.Cap.TheVariants as caps
use Rattle.cp_refs.specs.declared.outcome.Outcome.{Outcome}
use Rattle.cp_refs.specs.declared.outcome.Outcome.TheVariants as outcomes
use Rattle.cp_refs.specs.declared.route.Route.{Route}
use Rattle.cp_refs.specs.declared.route.Route.TheVariants as routes
use Rattle.cp_refs.specs.declared.values.QuestionState.{QuestionState}
use Rattle.cp_refs.specs.declared.values.QuestionKind.{QuestionKind}
use Rattle.cp_refs.specs.declared.values.QuestionKind.TheVariants as kinds
use Rattle.cp_vat_machine.specs.Capacity.{cap_fits, caps_fit, content_fits, exception_fits}
use Rattle.cp_vat_machine.specs.Writing.{end_by, end_within, ResolvesTo}
use Rattle.cp_vat_laws.specs.Sizes.{CapFits, OutcomeFits, ValuesFit}

pub both : (a b : Bool) → (a && b) ≡ true → (a ≡ true) × (b ≡ true)
both true b h = (refl, h)
both false b h = absurd (true≢false (sym h))

pub all_both : (a b : Bool) → a ≡ true → b ≡ true → (a && b) ≡ true
all_both true b p q = q
all_both false b p q = absurd (true≢false (sym p))

abbrev some_or : {X : Type 0} → X → Option X → X
some_or x None = x
some_or x (Some y) = y

abbrev is_there : {X : Type 0} → Option X → Bool
is_there None = false
is_there (Some x) = true

some_in : {X : Type 0} (x y : X) → Some x ≡ Some y → x ≡ y
some_in x y e = ap (some_or x) e

none_out : {X : Type 0} (x : X) → ◌≡◌ {A = Option X} None (Some x) → ⊥
none_out x e = true≢false (sym (ap is_there e))

-- of capabilities that fit each fits
each_fits : (table : List Cap) (i : ℕ) → list_all cap_fits table ≡ true → CapFits (slice_index_or table i caps.None)
each_fits [] i all = refl
each_fits (c ∷ table) zero all = (both (cap_fits c) (list_all cap_fits table) all).0
each_fits (c ∷ table) (suc i) all = each_fits table i (both (cap_fits c) (list_all cap_fits table) all).1

in_fits : (table : List Cap) (t : Node) → list_all cap_fits table ≡ true → CapFits (cap_in table t)
in_fits table null all = refl
in_fits table (cap i) all = each_fits table i all
in_fits table (struct ws ts) all = refl
in_fits table (list es) all = refl
in_fits table (ptrs ts) all = refl
in_fits table (structs d n bs) all = refl

-- what an outcome gives at a path
pub at_fits : (o : Outcome) (path : List ℕ) → OutcomeFits o → CapFits (cap_at o path)
at_fits (outcomes.Results content table) path fits =
    in_fits table (node_along content path) (both (leb (length table) 1024) (list_all cap_fits table) (both (content_fits content) (caps_fit table) fits).1).1
at_fits (outcomes.Failed x) path fits = fits
at_fits outcomes.Canceled path fits = refl

-- a route of a path that is short, or that fails with a short text
abbrev pub RouteFits : Route → Type 0
RouteFits (routes.Pipe q path) = leb (length path) 16 ≡ true
RouteFits (routes.Fail x) = exception_fits x ≡ true
RouteFits other = Unit {0}

abbrev WayFits : Way → Type 0
WayFits (ends route) = RouteFits route
WayFits (leads c) = CapFits c
WayFits missing = Unit {0}

module _ (v : ValueMaps) (fits : ValuesFit v) where
  promise_fits : (p : ℕ) (o : Option (Option Cap)) → IfSome o (λ value. IfSome value CapFits) → WayFits (promise_way p o)
  promise_fits p None h = tt
  promise_fits p (Some None) h = tt
  promise_fits p (Some (Some value)) h = h

  open_fits : (kind : QuestionKind) (q : ℕ) (path : List ℕ) → leb (length path) 16 ≡ true → RouteFits (open_way kind q path)
  open_fits kinds.Wire q path short = short
  open_fits kinds.Local q path short = tt

  outcome_way_fits : (kind : QuestionKind) (q : ℕ) (path : List ℕ) (o : Option Outcome) → leb (length path) 16 ≡ true → IfSome o OutcomeFits → WayFits (outcome_way kind q path o)
  outcome_way_fits kind q path None short h = open_fits kind q path short
  outcome_way_fits kind q path (Some outcome) short h = at_fits outcome path h

  question_fits : (q : ℕ) (path : List ℕ) (o : Option QuestionState) → leb (length path) 16 ≡ true → IfSome o (λ question. IfSome question.outcome OutcomeFits) → WayFits (question_way q path o)
  question_fits q path None short h = tt
  question_fits q path (Some question) short h = outcome_way_fits question.kind q path question.outcome short h

  way_fits : (c : Cap) → CapFits c → WayFits (way v c)
  way_fits caps.None h = refl
  way_fits (caps.Object k) h = tt
  way_fits (caps.Promise p) h = promise_fits p (get v.promises p) (fits.promises p)
  way_fits (caps.Import i) h = tt
  way_fits (caps.Pipelined q path) h = question_fits q path (get v.questions q) h (fits.questions q)
  way_fits (caps.Broken x) h = h

  end_by_fits : (n : ℕ) (c last : Cap) (w : Way) → ((d : Cap) → CapFits d → end_within n v d ≡ Some last → CapFits last) → CapFits c → WayFits w → end_by (λ d. end_within n v d) c w ≡ Some last → CapFits last
  end_by_fits n c last (ends route) on h way to = subst CapFits (some_in c last to) h
  end_by_fits n c last (leads d) on h way to = on d way to
  end_by_fits n c last missing on h way to = absurd (none_out last to)

  end_within_fits : (n : ℕ) (c last : Cap) → CapFits c → end_within n v c ≡ Some last → CapFits last
  end_within_fits zero c last h to = absurd (none_out last to)
  end_within_fits (suc n) c last h to = end_by_fits n c last (way v c) (λ d. end_within_fits n d last) h (way_fits c h) to

  -- what a capability comes to
  pub end_fits : (c last : Cap) → CapFits c → ResolvesTo v c last → CapFits last
  end_fits c last h to = end_within_fits to.0 c last h to.1

  route_by_fits : (n : ℕ) (route : Route) (w : Way) → ((d : Cap) → CapFits d → route_within n v d ≡ Some route → RouteFits route) → WayFits w → route_by (λ d. route_within n v d) w ≡ Some route → RouteFits route
  route_by_fits n route (ends r) on h to = subst RouteFits (some_in r route to) h
  route_by_fits n route (leads d) on h to = on d h to
  route_by_fits n route missing on h to = absurd (none_out route to)

  route_within_fits : (n : ℕ) (c : Cap) (route : Route) → CapFits c → route_within n v c ≡ Some route → RouteFits route
  route_within_fits zero c route h to = absurd (none_out route to)
  route_within_fits (suc n) c route h to = route_by_fits n route (way v c) (λ d. route_within_fits n d route) (way_fits c h) to

  -- where a call on a capability goes
  pub route_fits : (c : Cap) (route : Route) → CapFits c → Routes v c route → RouteFits route
  route_fits c route h to = route_within_fits to.0 c route h to.1
