-- The steps of routes.
use Rattle.std.proofs.Common.{◌≡◌, ◌≢◌, ◌<◌, arith, ℕ, zero, suc, List, Option, Some, None, is_some, IsSome, IfOk, Result, refl, sym, ap, ◌∙◌}
use mathlib.Core.Bool.{true, false, true≢false}
use Rattle.cp_refs.specs.Steps.{StepsFrom, IsStepOf}
use Rattle.cp_refs.specs.Ending.{ends_after, Ending, ends_once}
use Rattle.cp_refs.specs.declared.values.Step.{Step}
use Rattle.cp_refs.specs.declared.values.Step.TheVariants as steps
use Rattle.std.proofs.lemmas.Result.{IfOk-weaker}
use Rattle.std.specs.FinMap.{get}
use Rattle.cp_refs.specs.At.{cap_at}
use Rattle.cp_refs.specs.Route.{Way, ends, leads, missing, way, route_within, Routes, HasRoute}
use Rattle.cp_refs.specs.Values.{ValueMaps}
use Rattle.cp_refs.specs.declared.cap.Cap.{Cap}
use Rattle.cp_refs.specs.declared.cap.Cap.TheVariants as caps
use Rattle.cp_refs.specs.declared.outcome.Outcome.{Outcome}
use Rattle.cp_refs.specs.declared.route.Route.{Route}
use Rattle.cp_refs.specs.declared.values.QuestionState.{QuestionState}

module _ (values : ValueMaps) where
  -- a settled question leads to what its outcome gives
  settled_way : (q : ℕ) (path : List ℕ) (question : QuestionState) (outcome : Outcome) → get values.questions q ≡ Some question → question.outcome ≡ Some outcome → way values (caps.Pipelined q path) ≡ leads (cap_at outcome path)
  settled_way q path question outcome h o = rw (h, o)

  -- if a capability leads to one whose route is known, that is its route
  pub led_on : (c next : Cap) (route : Route) → way values c ≡ leads next → Routes values next route → Routes values c route
  led_on c next route h (n, e) = (suc n, rw h e)

  -- a step of the capability that another one leads to is a step of that one
  step_after : (c next : Cap) (step : Step) → way values c ≡ leads next → IsStepOf next step → StepsFrom values c step
  step_after c next (steps.Ends route) h s = (2, rw (h, s values))
  step_after c next (steps.Leads further) h s = h ∙ ap leads s

  -- so it is with what a settled question's outcome gives
  pub step_of_settled :
      {E : Type 0}
      (q : ℕ)
      (path : List ℕ)
      (question : QuestionState)
      (outcome : Outcome)
      (result : Result Step E)
      → get values.questions q ≡ Some question
      → question.outcome ≡ Some outcome
      → IfOk result (IsStepOf (cap_at outcome path))
      → IfOk result (StepsFrom values (caps.Pipelined q path))
  step_of_settled q path question outcome result h o all =
      IfOk-weaker result _ _ (λ step s. step_after (caps.Pipelined q path) (cap_at outcome path) step (settled_way q path question outcome h o) s) all

  -- a way that ends leads to ways that end, by one step less
  pub ending_after : (c next : Cap) (n : ℕ) → way values c ≡ leads next → ends_after n values c ≡ true → (m : ℕ) × (n ≡ suc m) × (ends_after m values next ≡ true)
  ending_after c next zero h e = absurd (true≢false (sym (rw h at e)))
  ending_after c next (suc m) h e = (m, refl, rw h at e)

  -- a way that ends isn't missing
  pub ending_there : (c : Cap) (n : ℕ) → ends_after n values c ≡ true → way values c ≢ missing
  ending_there c zero e h = true≢false (sym (rw h at e))
  ending_there c (suc n) e h = true≢false (sym (rw h at e))

  -- a capability that has a route has a way that ends
  pub has_ending : (n : ℕ) (c : Cap) → IsSome (route_within n values c) → Ending values c
  has_ending zero c h = absurd (true≢false (sym h))
  has_ending (suc n) c h = by_way (λ next r. has_ending n next r) (way values c) refl
    where
      by_way : ((next : Cap) → IsSome (route_within n values next) → Ending values next) → (w : Way) → way values c ≡ w → Ending values c
      by_way after (ends route) e = (0, rw e)
      by_way after (leads next) e = let (m, f) = after next (rw e at h) in (suc m, rw e f)
      by_way after missing e = absurd (true≢false (sym (rw e at h)))

  -- from a capability to the one that it leads to fewer are left
  pub fewer_left : (c next : Cap) (m n : ℕ) → way values c ≡ leads next → ends_after n values c ≡ true → ends_after m values next ≡ true → m < n
  fewer_left c next m n h e f =
      let (k, is, g) = ending_after c next n h e in
      omega (arith, is, ends_once m k values next f g)

  -- for callers: a promise that came to a capability has a route where that one has
  pub promise_routes : (p : ℕ) (value : Option Cap) (c d : Cap) → Some value ≡ get values.promises p → value ≡ Some c → c ≡ d → HasRoute values d → HasRoute values (caps.Promise p)
  promise_routes p value c d h e f (n, r) = (suc n, rw (sym h, e, f) r)

  -- for callers: what an open question gives has a route
  pub open_routes : (q : ℕ) (path : List ℕ) (question : QuestionState) → Some question ≡ get values.questions q → is_some question.outcome ≡ false → HasRoute values (caps.Pipelined q path)
  open_routes q path question h e = by_outcome question.outcome refl e
    where
      by_outcome : (outcome : Option Outcome) → question.outcome ≡ outcome → is_some outcome ≡ false → HasRoute values (caps.Pipelined q path)
      by_outcome None o f = (1, rw (sym h, o))
      by_outcome (Some outcome) o f = absurd (true≢false f)
