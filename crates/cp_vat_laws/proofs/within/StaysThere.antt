-- What is there stays there, and what has a route keeps one, where values change.
use Rattle.std.specs.Prelude.{◌≡◌, refl, ℕ, ◌==◌, Bool, true, false, Option, Some, None, is_some}
use Rattle.std.specs.FinMap.{get, insert}
use Rattle.std.proofs.Common.{ap, ◌∙◌, true≢false, sym}
use Rattle.cp_tables.specs.Table.{Table}
use Rattle.cp_refs.specs.Route.{Way, leads, promise_way, question_way, HasRoute}
use Rattle.cp_refs.specs.Values.{ValueMaps}
use Rattle.cp_refs.specs.declared.cap.Cap.{Cap}
use Rattle.cp_refs.specs.declared.cap.Cap.TheVariants as caps
use Rattle.cp_vat_machine.specs.State.{State}
use Rattle.cp_vat_machine.specs.Local.{IsThere, IsExportable}
use Rattle.cp_vat_machine.proofs.Basics.{is_equal, none_out, put_at}
use Rattle.cp_vat_laws.specs.Within.{AreValues, IsPlain}
use Rattle.cp_vat_laws.proofs.within.Ways.{IsWayKept, same_way, ways_kept, promise_leads}
use Rattle.cp_vat_laws.proofs.within.AllKept.{values_map, values_both}

module _ (s new : State) (promises : (p : ℕ) → is_some (get s.values.promises p) ≡ true → is_some (get new.values.promises p) ≡ true) where
  pub exportable_stays : (c : Cap) → IsExportable s c → IsExportable new c
  exportable_stays (caps.Object k) h = tt
  exportable_stays (caps.Promise p) h = promises p h
  exportable_stays caps.None h = absurd h
  exportable_stays (caps.Import i) h = absurd h
  exportable_stays (caps.Pipelined q path) h = absurd h
  exportable_stays (caps.Broken x) h = absurd h

  pub plain_there : ((i : ℕ) → is_some (get s.counts.imports i) ≡ true → is_some (get new.counts.imports i) ≡ true) → (c : Cap) → IsPlain c → IsThere s c
      → IsThere new c
  plain_there imports caps.None plain h = tt
  plain_there imports (caps.Object k) plain h = tt
  plain_there imports (caps.Promise p) plain h = promises p h
  plain_there imports (caps.Import i) plain h = imports i h
  plain_there imports (caps.Pipelined q path) plain h = absurd (true≢false plain)
  plain_there imports (caps.Broken x) plain h = tt

  module _ (imports : (i : ℕ) → is_some (get s.counts.imports i) ≡ true → is_some (get new.counts.imports i) ≡ true)
      (questions : (q : ℕ) → is_some (get s.values.questions q) ≡ true → is_some (get new.values.questions q) ≡ true) where
    pub there_stays : (c : Cap) → IsThere s c → IsThere new c
    there_stays caps.None h = tt
    there_stays (caps.Object k) h = tt
    there_stays (caps.Promise p) h = promises p h
    there_stays (caps.Import i) h = imports i h
    there_stays (caps.Pipelined q path) h = questions q h
    there_stays (caps.Broken x) h = tt

-- an entry that was there is there after a new one
pub put_stays : {X : Type 0} (m : Table X) (k : ℕ) (v : X) (q : ℕ) → is_some (get m q) ≡ true → is_some (get (insert m k v) q) ≡ true
put_stays m k v q there = by (k == q) refl
  where
    by : (b : Bool) → (k == q) ≡ b → is_some (get (insert m k v) q) ≡ true
    by true t = ap is_some (put_at m k q v true t)
    by false t = ap is_some (put_at m k q v false t) ∙ there

pub fresh_kept : {X : Type 0} (m : Table X) (k : ℕ) (v : X) → get m k ≡ None → (q : ℕ) (o : X) → get m q ≡ Some o → get (insert m k v) q ≡ Some o
fresh_kept m k v fresh q o is = by (k == q) refl
  where
    by : (b : Bool) → (k == q) ≡ b → get (insert m k v) q ≡ Some o
    by true t = let at : get m k ≡ Some o = rw (is_equal k q t) is in none_out (sym fresh ∙ at)
    by false t = put_at m k q v false t ∙ is

-- a promise that is new, and open
opened_way : (new : ValueMaps) (Q : Cap → Type 0) (q : ℕ) (old after : Option (Option Cap)) → ((x : Option Cap) → old ≡ Some x → after ≡ Some x)
    → ((c : Cap) → old ≡ Some (Some c) → Q c)
    → IsWayKept new Q (promise_way q old) (promise_way q after)
opened_way new Q q None after same leads_to = tt
opened_way new Q q (Some o) after same leads_to = rw (same o refl)
    (same_way new Q (promise_way q (Some o)) (λ c is. leads_to c (promise_leads q (Some o) c is)))

-- the route of what names no question's path rests on promises alone
module _ (values new : ValueMaps) (plain : AreValues IsPlain values)
    (promises : (p : ℕ) (o : Option Cap) → get values.promises p ≡ Some o → get new.promises p ≡ Some o) where
  pub plain_route : (c : Cap) → IsPlain c → HasRoute values c → HasRoute new c
  plain_route = ways_kept values new IsPlain
      (λ p is. opened_way new IsPlain p (get values.promises p) (get new.promises p) (promises p) (λ c at. plain.promises p c at))
      (λ q path is. absurd (true≢false is))

  pub plain_routes : AreValues (HasRoute values) values → AreValues (HasRoute new) values
  plain_routes all_end = values_map (λ c. IsPlain c × HasRoute values c) (HasRoute new) values (λ c h. plain_route c h.0 h.1)
      (values_both IsPlain (HasRoute values) values plain all_end)

-- no promise and no question changes
alike_way : (new : ValueMaps) (Q : Cap → Type 0) (w other : Way) → other ≡ w → ((c : Cap) → w ≡ leads c → Q c) → IsWayKept new Q w other
alike_way new Q w other is h = rw (is) (same_way new Q w h)

pub same_route : (values new : ValueMaps) → new.promises ≡ values.promises → new.questions ≡ values.questions → (c : Cap) → HasRoute values c → HasRoute new c
same_route values new promises questions c h =
    ways_kept values new (λ x. Unit {0})
    (λ p any. alike_way new (λ x. Unit {0}) (promise_way p (get values.promises p)) (promise_way p (get new.promises p))
    (ap (λ m. promise_way p (get m p)) promises) (λ d is. tt))
    (λ q path any. alike_way new (λ x. Unit {0}) (question_way q path (get values.questions q)) (question_way q path (get new.questions q))
    (ap (λ m. question_way q path (get m q)) questions) (λ d is. tt)) c tt h
