-- Ways of capabilities, where values change.
use Rattle.std.specs.Prelude.{◌≡◌, refl, ℕ, zero, suc, ◌⊎◌, List, Option, Some, None, IsSome}
use Rattle.std.specs.FinMap.{get}
use Rattle.std.proofs.Common.{inl, inr, sym, true≢false}
use Rattle.cp_refs.specs.At.{cap_at}
use Rattle.cp_refs.specs.Route.{Way, ends, leads, missing, promise_way, outcome_way, question_way, way, route_by, route_within, HasRoute}
use Rattle.cp_refs.specs.Values.{ValueMaps}
use Rattle.cp_refs.specs.declared.cap.Cap.{Cap}
use Rattle.cp_refs.specs.declared.cap.Cap.TheVariants as caps
use Rattle.cp_refs.specs.declared.outcome.Outcome.{Outcome}
use Rattle.cp_refs.specs.declared.values.QuestionState.{QuestionState}
use Rattle.cp_refs.specs.declared.values.QuestionKind.{QuestionKind}
use Rattle.cp_vat_machine.specs.Writing.{ResolvesTo, end_by, end_within}
use Rattle.cp_vat_machine.proofs.Basics.{some_out, none_out}

-- a way that ends
abbrev pub HasEnd : ValueMaps → Way → Type 0
HasEnd values w = (n : ℕ) × IsSome (route_by (λ next. route_within n values next) w)

pub route_of_end : (values : ValueMaps) (c : Cap) → HasEnd values (way values c) → HasRoute values c
route_of_end values c h = (suc h.0, h.1)

-- A way is kept: where it ended it ends, and where it led on it ends, or leads on to the same.
abbrev pub IsWayKept : ValueMaps → (Cap → Type 0) → Way → Way → Type 0
IsWayKept new Q (ends r) other = HasEnd new other
IsWayKept new Q (leads c) other = HasEnd new other ⊎ ((other ≡ leads c) × Q c)
IsWayKept new Q missing other = Unit {0}

pub same_way : (new : ValueMaps) (Q : Cap → Type 0) (w : Way) → ((c : Cap) → w ≡ leads c → Q c) → IsWayKept new Q w w
same_way new Q (ends r) h = (0, refl)
same_way new Q (leads c) h = inr (refl, h c refl)
same_way new Q missing h = tt

module _ (old new : ValueMaps) (Q : Cap → Type 0) (each : (c : Cap) → Q c → IsWayKept new Q (way old c) (way new c)) where
  kept_by : (n : ℕ) → ((c : Cap) → Q c → IsSome (route_within n old c) → HasRoute new c) → (c : Cap) (w : Way) → IsWayKept new Q w (way new c)
      → IsSome (route_by (λ next. route_within n old next) w) → HasRoute new c
  kept_by n more c (ends r) h some = route_of_end new c h
  kept_by n more c (leads d) (inl h) some = route_of_end new c h
  kept_by n more c (leads d) (inr h) some = route_of_end new c (rw (h.0) (more d h.1 some))
  kept_by n more c missing h some = absurd (true≢false (sym some))

  kept_within : (n : ℕ) (c : Cap) → Q c → IsSome (route_within n old c) → HasRoute new c
  kept_within zero c q some = absurd (true≢false (sym some))
  kept_within (suc n) c q some = kept_by n (kept_within n) c (way old c) (each c q) some

  pub route_kept : (c : Cap) → Q c → HasRoute old c → HasRoute new c
  route_kept c q h = kept_within h.0 c q h.1

-- each way is kept if those of promises and questions are
pub ways_kept : (old new : ValueMaps) (Q : Cap → Type 0)
    → ((p : ℕ) → Q (caps.Promise p) → IsWayKept new Q (promise_way p (get old.promises p)) (promise_way p (get new.promises p)))
    → ((q : ℕ) (path : List ℕ) → Q (caps.Pipelined q path) → IsWayKept new Q (question_way q path (get old.questions q))
    (question_way q path (get new.questions q)))
    → (c : Cap) → Q c → HasRoute old c → HasRoute new c
ways_kept old new Q promises questions = route_kept old new Q each
  where
    each : (c : Cap) → Q c → IsWayKept new Q (way old c) (way new c)
    each caps.None q = (0, refl)
    each (caps.Object k) q = (0, refl)
    each (caps.Promise p) q = promises p q
    each (caps.Import i) q = (0, refl)
    each (caps.Pipelined r path) q = questions r path q
    each (caps.Broken x) q = (0, refl)

-- where promises and questions lead
pub promise_leads : (p : ℕ) (o : Option (Option Cap)) (c : Cap) → promise_way p o ≡ leads c → o ≡ Some (Some c)
promise_leads p None c is = absurd (cc)
promise_leads p (Some None) c is = absurd (cc)
promise_leads p (Some (Some value)) c is = cc

outcome_leads : (kind : QuestionKind) (q : ℕ) (path : List ℕ) (o : Option Outcome) (c : Cap) → outcome_way kind q path o ≡ leads c
    → (outcome : Outcome) × (o ≡ Some outcome) × (c ≡ cap_at outcome path)
outcome_leads kind q path None c is = absurd (cc)
outcome_leads kind q path (Some outcome) c is = (outcome, refl, sym (leads_out _ _ is))
  where
    leads_out : (x y : Cap) → leads x ≡ leads y → x ≡ y
    leads_out x y is = cc

pub question_leads : (q : ℕ) (path : List ℕ) (o : Option QuestionState) (c : Cap) → question_way q path o ≡ leads c
    → (question : QuestionState) × (outcome : Outcome) × (o ≡ Some question) × (question.outcome ≡ Some outcome) × (c ≡ cap_at outcome path)
question_leads q path None c is = absurd (cc)
question_leads q path (Some question) c is =
    let found = outcome_leads question.kind q path question.outcome c is in
    (question, found.0, refl, found.1, found.2)

-- what a capability comes to is where its way ends
abbrev pub IsEnding : Way → Type 0
IsEnding (ends r) = Unit {0}
IsEnding (leads c) = ⊥
IsEnding missing = ⊥

end_found : (values : ValueMaps) (n : ℕ) (c last : Cap) (w : Way) → ((next : Cap) → end_within n values next ≡ Some last → IsEnding (way values last))
    → way values c ≡ w
    → end_by (λ next. end_within n values next) c w ≡ Some last → IsEnding (way values last)
end_found values n c last (ends r) more is e = rw (← some_out e, is) tt
end_found values n c last (leads next) more is e = more next e
end_found values n c last missing more is e = none_out e

ends_within : (values : ValueMaps) (n : ℕ) (c last : Cap) → end_within n values c ≡ Some last → IsEnding (way values last)
ends_within values zero c last e = none_out e
ends_within values (suc n) c last e = end_found values n c last (way values c) (λ next. ends_within values n next last) refl e

pub comes_to_end : (values : ValueMaps) (c last : Cap) → ResolvesTo values c last → IsEnding (way values last)
comes_to_end values c last comes = ends_within values comes.0 c last comes.1

pub ending_promise : (p : ℕ) (o : Option (Option Cap)) → IsEnding (promise_way p o) → o ≡ Some None
ending_promise p None h = absurd h
ending_promise p (Some None) h = refl
ending_promise p (Some (Some value)) h = absurd h
