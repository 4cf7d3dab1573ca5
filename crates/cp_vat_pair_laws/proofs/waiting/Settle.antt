-- Calls wait on rightly after a promise that is settled.
use Rattle.std.specs.Prelude.{◌≡◌, refl, ℕ, zero, suc, ◌==◌, Bool, true, false, List, [], ◌∷◌, Some, None, Ok}
use Rattle.std.specs.FinMap.{get, insert}
use Rattle.std.proofs.Common.{arith, inl, inr, ap, subst, sym, ◌∙◌, true≢false}
use Rattle.std.proofs.lemmas.Bool.Decides.{nat_tests}
use Rattle.cp_messages.specs.declared.descriptor.Descriptor.{Descriptor}
use Rattle.cp_messages.specs.declared.resolve.Resolution.{Resolution}
use Rattle.cp_refs.specs.At.{cap_at}
use Rattle.cp_refs.specs.Route.{Way, ends, leads, missing, promise_way, question_way, way, Routes}
use Rattle.cp_refs.specs.Values.{ValueMaps}
use Rattle.cp_refs.specs.declared.cap.Cap.{Cap}
use Rattle.cp_refs.specs.declared.cap.Cap.TheVariants as caps
use Rattle.cp_refs.specs.declared.outcome.Outcome.{Outcome}
use Rattle.cp_refs.specs.declared.route.Gate.{Gate}
use Rattle.cp_refs.specs.declared.route.Gate.TheVariants as gates
use Rattle.cp_refs.specs.declared.route.Route.{Route}
use Rattle.cp_refs.specs.declared.route.Route.TheVariants as routes
use Rattle.cp_vat_machine.specs.State.{State, gave, with_exports}
use Rattle.cp_vat_machine.specs.Then.{Done}
use Rattle.cp_vat_machine.specs.Writing.{ResolvesTo, WritesEnd, end_by, end_within}
use Rattle.cp_vat_machine.specs.Give.{ResolvesEnd, Tells, settled, value_for, Settle, SettleTied}
use Rattle.cp_vat_machine.specs.Waits.{LeadsBy}
use Rattle.cp_vat_machine.specs.Local.{tied_to}
use Rattle.cp_vat_machine.specs.declared.entry.Tied.{Tied}
use Rattle.cp_vat_machine.proofs.Basics.{some_out, none_out, is_equal, other_number, ok_in, then_out, put_at}
use Rattle.cp_vat_pair_laws.specs.Turns.{AreOpen, SettlingKeeps}
use Rattle.cp_vat_pair_laws.proofs.counts.rules.Say.{said_end}
use Rattle.cp_vat_pair_laws.proofs.waiting.Routes.{Moves, moved_rightly, moves_both, same_moves, Any, WayMoves, all_move, each_way, move_where, EndsOff, way_off, off_promise, off_question, NoOpenOver, no_open, none_leads}
use Rattle.cp_vat_laws.proofs.order.Settle.{not_tied}

pub same_back : (a b : ℕ) → (a == b) ≡ true → (b == a) ≡ true
same_back a b e = grind (arith, nat_tests)

-- A route to the promise moves to that of its value, and any other stays.
abbrev at_promise : ℕ → Route → Bool
at_promise p (routes.Wait (gates.Promise q)) = q == p
at_promise p other = false

abbrev with_value : ValueMaps → ℕ → Cap → ValueMaps
with_value values p v = record values { promises = insert values.promises p (Some v) }

abbrev Elsewhere : Route → ℕ → Type 0
Elsewhere r p = at_promise p r ≡ false

way_stays : (new : ValueMaps) (p : ℕ) (w : Way) → WayMoves new (λ r. Elsewhere r p) Any (λ r. r) w w
way_stays new p (ends x) = λ h. (0, refl)
way_stays new p (leads c) = (refl, tt)
way_stays new p missing = tt

module _ (values : ValueMaps) (p : ℕ) (v : Cap) (open_ : get values.promises p ≡ Some None) where
  it_stays : (q : ℕ) (b : Bool) → (p == q) ≡ b
      → WayMoves (with_value values p v) (λ r. Elsewhere r p) Any (λ r. r) (promise_way q (get values.promises q)) (promise_way q (get (insert values.promises p (Some v)) q))
  it_stays q true t =
      let is : get values.promises q ≡ Some None = rw (← is_equal p q t) open_ in
      rw (put_at values.promises p q (Some v) true t, is) (λ f. absurd (true≢false (sym (same_back p q t) ∙ f)))
  it_stays q false t = rw (put_at values.promises p q (Some v) false t) (way_stays (with_value values p v) p (promise_way q (get values.promises q)))

  stay : (c : Cap) (r : Route) → Elsewhere r p → Routes values c r → Routes (with_value values p v) c r
  stay c r other h = all_move values (with_value values p v) (λ r. Elsewhere r p) Any (λ r. r) each_stays c r tt other h
    where
      each_stays : (c : Cap) → Any c → WayMoves (with_value values p v) (λ r. Elsewhere r p) Any (λ r. r) (way values c) (way (with_value values p v) c)
      each_stays =
          each_way values (with_value values p v) (λ r. Elsewhere r p) Any (λ r. r) (λ x. refl) (λ k. refl) (λ i. refl) (λ q. it_stays q (p == q) refl)
          (λ q path any. way_stays (with_value values p v) p (question_way q path (get values.questions q)))

  module _ (to : Route) (there : Routes values v to) (other : Elsewhere to p) where
    it_goes : (q : ℕ) (b : Bool) → (p == q) ≡ b
        → WayMoves (with_value values p v) Any Any (move_where (at_promise p) to) (promise_way q (get values.promises q)) (promise_way q (get (insert values.promises p (Some v)) q))
    it_goes q true t =
        let is : get values.promises q ≡ Some None = rw (← is_equal p q t) open_ in
        rw (put_at values.promises p q (Some v) true t, is) (λ any. rw (same_back p q t) (stay v to other there))
    it_goes q false t =
        rw
        (put_at values.promises p q (Some v) false t)
        (way_off (with_value values p v) (at_promise p) to _ (off_promise (at_promise p) q (get values.promises q) (other_number p q t)))

    each_goes : (c : Cap) → Any c → WayMoves (with_value values p v) Any Any (move_where (at_promise p) to) (way values c) (way (with_value values p v) c)
    each_goes =
        each_way values (with_value values p v) Any Any (move_where (at_promise p) to) (λ x. refl) (λ k. refl) (λ i. refl) (λ q. it_goes q (p == q) refl)
        (λ q path any. way_off (with_value values p v) (at_promise p) to _ (off_question (at_promise p) q path refl refl (get values.questions q)))

    go : (c : Cap) (r : Route) → Routes values c r → Routes (with_value values p v) c (move_where (at_promise p) to r)
    go c r h = all_move values (with_value values p v) Any Any (move_where (at_promise p) to) each_goes c r tt tt h

-- the promise of a state, which isn't over
module _ (s : State) (p : ℕ) (v : Cap) (open_ : get s.values.promises p ≡ Some None) (ungiven : get s.waiting.over.promises p ≡ None) where
  module _ (to : Route) (there : Routes s.values v to) (other : Elsewhere to p) where
    promise_waited : (q : ℕ) (b : Bool) → (p == q) ≡ b → get s.waiting.over.promises q ≡ None
        → LeadsBy (settled s p v) (gates.Promise q) (get (insert s.waiting.over.promises p v) q) (move_where (at_promise p) to (routes.Wait (gates.Promise q)))
    promise_waited q true t e = rw (put_at s.waiting.over.promises p q v true t, same_back p q t) (stay s.values p v open_ v to other there)
    promise_waited q false t e = rw (put_at s.waiting.over.promises p q v false t, e, other_number p q t) refl

    gate_waited : (g : Gate) → gave s.waiting.over g ≡ None
        → LeadsBy (settled s p v) g (gave (settled s p v).waiting.over g) (move_where (at_promise p) to (routes.Wait g))
    gate_waited (gates.Answer a path) e = rw (e) refl
    gate_waited (gates.Promise q) e = promise_waited q (p == q) refl e
    gate_waited (gates.Question q path) e = rw (e) refl
    gate_waited (gates.Embargo n) e = rw (e) refl

    promise_ended : (q : ℕ) (b : Bool) (c : Cap) → (p == q) ≡ b → get s.waiting.over.promises q ≡ Some c → get (insert s.waiting.over.promises p v) q ≡ Some c
    promise_ended q true c t e =
        let same : get s.waiting.over.promises p ≡ Some c = rw (is_equal p q t) e in
        none_out (sym ungiven ∙ same)
    promise_ended q false c t e = put_at s.waiting.over.promises p q v false t ∙ e

    gate_ended : (g : Gate) (c : Cap) → gave s.waiting.over g ≡ Some c → gave (settled s p v).waiting.over g ≡ Some c
    gate_ended (gates.Answer a path) c e = e
    gate_ended (gates.Promise q) c e = promise_ended q (p == q) c refl e
    gate_ended (gates.Question q path) c e = e
    gate_ended (gates.Embargo n) c e = e

    settled_moves : Moves s (settled s p v) (move_where (at_promise p) to)
    settled_moves =
        record { moved = go s.values p v open_ to there other; waited = gate_waited; ended = gate_ended; embargoes = refl; over = refl; calls = refl }

  promise_over : NoOpenOver s → (q : ℕ) (b : Bool) → (p == q) ≡ b → get (insert s.values.promises p (Some v)) q ≡ Some None
      → get (insert s.waiting.over.promises p v) q ≡ None
  promise_over h q true t is = none_out (sym (some_out (sym (put_at s.values.promises p q (Some v) true t) ∙ is)))
  promise_over h q false t is =
      put_at s.waiting.over.promises p q v false t ∙ h (gates.Promise q) (sym (put_at s.values.promises p q (Some v) false t) ∙ is)

  settled_over : NoOpenOver s → NoOpenOver (settled s p v)
  settled_over h (gates.Answer a path) is = absurd is
  settled_over h (gates.Promise q) is = promise_over h q (p == q) refl is
  settled_over h (gates.Question q path) is = h (gates.Question q path) is
  settled_over h (gates.Embargo n) is = absurd is

-- what a value comes to tells its route
abbrev EndOf : ValueMaps → Cap → Cap → Type 0
EndOf values c last = (r : Route) × (way values last ≡ ends r) × Routes values c r

end_found : (values : ValueMaps) (n : ℕ) (c last : Cap) (w : Way) → ((next : Cap) → end_within n values next ≡ Some last → EndOf values next last) → way values c ≡ w
    → end_by (λ next. end_within n values next) c w ≡ Some last → EndOf values c last
end_found values n c last (ends x) more is e = (x, rw (← some_out e) is, (1, rw (is) refl))
end_found values n c last (leads next) more is e = let there = more next e in (there.0, there.1, (suc there.2.0, rw (is) there.2.1))
end_found values n c last missing more is e = none_out e

route_end : (values : ValueMaps) (n : ℕ) (c last : Cap) → end_within n values c ≡ Some last → EndOf values c last
route_end values zero c last e = none_out e
route_end values (suc n) c last e = end_found values n c last (way values c) (λ next. route_end values n next last) refl e

-- a value that doesn't lead back to the promise
abbrev Valued : ValueMaps → ℕ → Cap → Type 0
Valued values p v = (to : Route) × Routes values v to × Elsewhere to p

valued_by : (values : ValueMaps) (p : ℕ) (value last : Cap) → EndsOff (at_promise p) (way values last) → ResolvesTo values value last → Valued values p value
valued_by values p value last other comes =
    let found = route_end values comes.0 value last comes.1 in (found.0, found.2, subst (λ w. EndsOff (at_promise p) w) found.1 other)

valued : (values : ValueMaps) (p : ℕ) (value last : Cap) → ResolvesTo values value last → Valued values p (value_for p last value)
valued values p value caps.None comes = valued_by values p value caps.None refl comes
valued values p value (caps.Object k) comes = valued_by values p value (caps.Object k) refl comes
valued values p value (caps.Promise r) comes = by (r == p) refl
  where
    by : (b : Bool) → (r == p) ≡ b → Valued values p (value_for p (caps.Promise r) value)
    by true t = rw (t) (routes.Fail _, (1, refl), refl)
    by false t = rw (t) (valued_by values p value (caps.Promise r) (off_promise (at_promise p) r (get values.promises r) t) comes)
valued values p value (caps.Import i) comes = valued_by values p value (caps.Import i) refl comes
valued values p value (caps.Pipelined q path) comes = valued_by values p value (caps.Pipelined q path) (off_question (at_promise p) q path refl refl (get values.questions q)) comes
valued values p value (caps.Broken x) comes = valued_by values p value (caps.Broken x) refl comes

-- telling it changes nothing but exports
resolved_only : (old : State) (last : Cap) (said : Resolution × State) → ResolvesEnd old last (Ok said) → said.1 ≡ with_exports old said.1.counts.exports
resolved_only old caps.None said is = let parts = then_out {A = Descriptor × State} {B = Resolution × State} (WritesEnd old caps.None) _ said is in rw (ok_in _ _ parts.2) (said_end old caps.None parts.0 parts.1).only
resolved_only old (caps.Object k) said is = let parts = then_out {A = Descriptor × State} {B = Resolution × State} (WritesEnd old (caps.Object k)) _ said is in rw (ok_in _ _ parts.2) (said_end old (caps.Object k) parts.0 parts.1).only
resolved_only old (caps.Promise p) said is = let parts = then_out {A = Descriptor × State} {B = Resolution × State} (WritesEnd old (caps.Promise p)) _ said is in rw (ok_in _ _ parts.2) (said_end old (caps.Promise p) parts.0 parts.1).only
resolved_only old (caps.Import i) said is = let parts = then_out {A = Descriptor × State} {B = Resolution × State} (WritesEnd old (caps.Import i)) _ said is in rw (ok_in _ _ parts.2) (said_end old (caps.Import i) parts.0 parts.1).only
resolved_only old (caps.Pipelined q path) said is = let parts = then_out {A = Descriptor × State} {B = Resolution × State} (WritesEnd old (caps.Pipelined q path)) _ said is in rw (ok_in _ _ parts.2) (said_end old (caps.Pipelined q path) parts.0 parts.1).only
resolved_only old (caps.Broken x) said is = rw (ok_in _ _ is) refl

told_only : (old : State) (p : ℕ) (last : Cap) (done : Done) → Tells old p last (Ok done) → done.1 ≡ with_exports old done.1.counts.exports
told_only old p last done (inl (none, is)) = rw (ok_in _ _ is) refl
told_only old p last done (inr (e, is_export, is)) =
    let parts = then_out {A = Resolution × State} {B = Done} (ResolvesEnd old last) _ done is in
    rw (ok_in _ _ parts.2) (resolved_only old last parts.0 parts.1)

-- One promise is settled: routes move, no open gate is over, and other promises stay as they are.
abbrev pub MovesOn : State → State → Type 0
MovesOn old mid = (move : Route → Route) × Moves old mid move × NoOpenOver mid

abbrev Beside : State → State → ℕ → Type 0
Beside old mid p = (q : ℕ) → (p == q) ≡ false → get mid.values.promises q ≡ get old.values.promises q

pub both_on : (s mid last : State) → MovesOn s mid → MovesOn mid last → MovesOn s last
both_on s mid last one more = ((λ r. more.0 (one.0 r)), moves_both {f = one.0} {g = more.0} one.1 more.1, more.2)

over_same : (old mid : State) → mid.values ≡ old.values → mid.waiting ≡ old.waiting → NoOpenOver old → NoOpenOver mid
over_same old mid values waiting h gate is = ap (λ w. gave w.over gate) waiting ∙ h gate (rw (← values) is)

settle_keeps : (s : State) (p : ℕ) (value : Cap) (done : Done) → Settle s p value (Ok done) → get s.values.promises p ≡ Some None → NoOpenOver s
    → MovesOn s done.1 × Beside s done.1 p
settle_keeps s p value done (last, comes, tells) open_ over =
    let v : Cap = value_for p last value in
    let fine = valued s.values p value last comes in
    let only = told_only (settled s p v) p _ done tells in
    let values = ap (λ x. x.values) only in
    let waiting = ap (λ x. x.waiting) only in
    let one = settled_moves s p v open_ (over (gates.Promise p) open_) fine.0 fine.1 fine.2 in (
      (
        move_where (at_promise p) fine.0,
        moves_both one (same_moves (settled s p v) done.1 values waiting (ap (λ x. x.marks) only)),
        over_same (settled s p v) done.1 values waiting (settled_over s p v open_ (over (gates.Promise p) open_) over),
      ),
      λ q other. ap (λ x. get x.promises q) values ∙ put_at s.values.promises p q (Some v) false other,
    )

-- the promises tied to an answer, one after another
still_open : (old mid : State) (p : ℕ) (tied : List Tied) → Beside old mid p → tied_to p tied ≡ 0 → AreOpen old.values tied → AreOpen mid.values tied
still_open old mid p [] beside none are = tt
still_open old mid p (tied ∷ more) beside none are =
    let parts = not_tied p tied more (tied.promise == p) refl none in
    (beside tied.promise (other_number tied.promise p parts.0) ∙ are.0, are.1, still_open old mid p more beside parts.1 are.2)

pub tied_keeps : (tied : List Tied) (s : State) (outcome : Outcome) (done : Done) → SettleTied s outcome tied (Ok done) → AreOpen s.values tied → NoOpenOver s → MovesOn s done.1
tied_keeps [] s outcome done is are over = rw (ok_in _ _ is) ((λ r. r), same_moves s s refl refl refl, over)
tied_keeps (tied ∷ more) s outcome done is are over =
    let first = then_out {A = Done} {B = Done} (Settle s tied.promise (cap_at outcome tied.path)) _ done is in
    let rest = then_out {A = Done} {B = Done} (SettleTied first.0.1 outcome more) _ done first.2 in
    let here = settle_keeps s tied.promise (cap_at outcome tied.path) first.0 first.1 are.0 over in
    let there = tied_keeps more first.0.1 outcome rest.0 rest.1 (still_open s first.0.1 tied.promise more here.1 are.1 are.2) here.0.2 in
    rw (ok_in _ _ rest.2) (both_on s first.0.1 rest.0.1 here.0 there)

pub settling_keeps : SettlingKeeps
settling_keeps =
    record {
      rightly = λ old ports p value done h over open_ settles. moved_rightly (settle_keeps old p value done settles open_ (no_open old over)).0.1 ports h;
      over = λ old p value done over open_ settles. none_leads done.1 (settle_keeps old p value done settles open_ (no_open old over)).0.2;
    }
