-- How promises are settled.
use Rattle.std.specs.Prelude.{◌≡◌, refl, ℕ, zero, suc, ◌+◌, ◌≤◌, ◌==◌, ◌&&◌, not, cond, Bool, true, false, List, [], ◌∷◌, Option, Some, None, Ok}
use Rattle.std.specs.List.{AllByRecursion}
use Rattle.std.specs.FinMap.{get, insert}
use Rattle.std.specs.FinSet as set
use Rattle.std.proofs.Common.{arith, ap, sym, subst, ◌∙◌, true≢false}
use Rattle.std.proofs.lemmas.List.Sums.{sum_by-cons}
use Rattle.cp_tables.specs.Table.{Table}
use Rattle.cp_tables.specs.declared.counted.Counted.{Counted}
use Rattle.cp_messages.specs.declared.exception.Exception.{Exception}
use Rattle.cp_refs.specs.At.{cap_at}
use Rattle.cp_refs.specs.Route.{Way, ends, leads, missing, promise_way, question_way, way, HasRoute}
use Rattle.cp_refs.specs.Values.{ValueMaps}
use Rattle.cp_refs.specs.declared.cap.Cap.{Cap}
use Rattle.cp_refs.specs.declared.cap.Cap.TheVariants as caps
use Rattle.cp_refs.specs.declared.call.WaitingCall.{WaitingCall}
use Rattle.cp_refs.specs.declared.call.Origin.{Origin}
use Rattle.cp_refs.specs.declared.outcome.Outcome.{Outcome}
use Rattle.cp_refs.specs.declared.route.Route.TheVariants as routes
use Rattle.cp_refs.specs.declared.route.Gate.{Gate}
use Rattle.cp_refs.specs.declared.route.Gate.TheVariants as gates
use Rattle.cp_vat_machine.specs.State.{State, gave, with_exports}
use Rattle.cp_vat_machine.specs.Then.{Done}
use Rattle.cp_vat_machine.specs.Writing.{ResolvesTo, end_by, end_within}
use Rattle.cp_vat_machine.specs.Give.{settled, value_for, last_for, Settle, SettleTied}
use Rattle.cp_vat_machine.specs.Texts.{promise_loop}
use Rattle.cp_vat_machine.specs.InUse.{caps_of, is_promise, is_unsettled}
use Rattle.cp_vat_machine.specs.Local.{one_if, tied_to, tied_in, IsThere, IsExportable}
use Rattle.cp_vat_machine.specs.declared.entry.Tied.{Tied}
use Rattle.cp_vat_machine.proofs.Basics.{some_out, none_out, ok_in, then_out, is_equal, is_itself, other_number, put_at}
use Rattle.cp_vat_laws.specs.Within.{Within, AreTiedRightly, AreValues, AllKept, IsPlain, IsFit, IsUngivenIf}
use Rattle.cp_vat_laws.proofs.Tables.{each_kept, all_of}
use Rattle.cp_vat_laws.proofs.within.Ways.{IsWayKept, same_way, ways_kept, route_of_end, IsEnding, comes_to_end}
use Rattle.cp_vat_laws.proofs.within.AllKept.{values_map, kept_map, promise_put}
use Rattle.cp_vat_laws.proofs.within.Follows.{all_end}
use Rattle.cp_vat_laws.proofs.within.StaysThere.{exportable_stays, there_stays, put_stays}
use Rattle.cp_vat_laws.proofs.within.Exports.{tells_keeps}
use Rattle.cp_vat_laws.proofs.within.Take.{fit_at}

abbrev pub with_value : ValueMaps → ℕ → Option Cap → ValueMaps
with_value values p v = record values { promises = insert values.promises p v }

its_promise : (p : ℕ) (c : Cap) → is_promise p c ≡ true → c ≡ caps.Promise p
its_promise p (caps.Promise q) is = ap caps.Promise (is_equal q p is)
its_promise p caps.None is = absurd (true≢false (sym is))
its_promise p (caps.Object k) is = absurd (true≢false (sym is))
its_promise p (caps.Import i) is = absurd (true≢false (sym is))
its_promise p (caps.Pipelined q path) is = absurd (true≢false (sym is))
its_promise p (caps.Broken x) is = absurd (true≢false (sym is))

module _ (values : ValueMaps) (p : ℕ) (v : Option Cap) (open_ : get values.promises p ≡ Some None) where
  -- the ways of all but the promise stay
  off_it : (c : Cap) → is_promise p c ≡ false → way (with_value values p v) c ≡ way values c
  off_it caps.None other = refl
  off_it (caps.Object k) other = refl
  off_it (caps.Promise q) other = ap (promise_way q) (put_at values.promises p q v false (other_number q p other))
  off_it (caps.Import i) other = refl
  off_it (caps.Pipelined q path) other = refl
  off_it (caps.Broken x) other = refl

  -- what comes to anything but the promise has a route after it
  avoids_by : (n : ℕ) (c last : Cap) (w : Way) → ((d : Cap) → end_within n values d ≡ Some last → HasRoute (with_value values p v) d)
      → is_promise p last ≡ false
      → way values c ≡ w → end_by (λ d. end_within n values d) c w ≡ Some last → HasRoute (with_value values p v) c
  avoids_by n c last w more other is comes = by (is_promise p c) refl
    where
      off : (w : Way) → is_promise p c ≡ false → way values c ≡ w → end_by (λ d. end_within n values d) c w ≡ Some last → HasRoute (with_value values p v) c
      off (ends r) t is comes = (1, rw (off_it c t, is) refl)
      off (leads d) t is comes = route_of_end (with_value values p v) c (rw (off_it c t, is) (more d comes))
      off missing t is comes = none_out comes

      at_it : c ≡ caps.Promise p → end_by (λ d. end_within n values d) c w ≡ Some last → caps.Promise p ≡ last
      at_it same comes =
          let here : way values c ≡ ends (routes.Wait (gates.Promise p)) = rw (same, open_) refl in
          sym same ∙ some_out (subst (λ x. end_by (λ d. end_within n values d) c x ≡ Some last) (sym is ∙ here) comes)

      by : (b : Bool) → is_promise p c ≡ b → HasRoute (with_value values p v) c
      by true t =
          let same = at_it (its_promise p c t) comes in
          let it : is_promise p last ≡ true = rw (← same) (is_itself p) in
          absurd (true≢false (sym it ∙ other))
      by false t = off w t is comes

  avoids : (n : ℕ) (c last : Cap) → is_promise p last ≡ false → end_within n values c ≡ Some last → HasRoute (with_value values p v) c
  avoids zero c last other comes = none_out comes
  avoids (suc n) c last other comes = avoids_by n c last (way values c) (λ d. avoids n d last other) other refl comes

  -- the value that it is settled to has a route, and the way of what is told ends
  pub settled_route : (value last : Cap) → ResolvesTo values value last → HasRoute (with_value values p v) (value_for p last value)
  settled_route value caps.None comes = avoids comes.0 value caps.None refl comes.1
  settled_route value (caps.Object k) comes = avoids comes.0 value (caps.Object k) refl comes.1
  settled_route value (caps.Promise r) comes = by (r == p) refl
    where
      by : (b : Bool) → (r == p) ≡ b → HasRoute (with_value values p v) (value_for p (caps.Promise r) value)
      by true t = rw (t) (1, refl)
      by false t = rw (t) (avoids comes.0 value (caps.Promise r) t comes.1)
  settled_route value (caps.Import i) comes = avoids comes.0 value (caps.Import i) refl comes.1
  settled_route value (caps.Pipelined q path) comes = avoids comes.0 value (caps.Pipelined q path) refl comes.1
  settled_route value (caps.Broken x) comes = avoids comes.0 value (caps.Broken x) refl comes.1

  told_end : (last : Cap) → IsEnding (way values last) → IsEnding (way (with_value values p v) (last_for p last))
  told_end caps.None h = h
  told_end (caps.Object k) h = h
  told_end (caps.Promise r) h = by (r == p) refl
    where
      by : (b : Bool) → (r == p) ≡ b → IsEnding (way (with_value values p v) (last_for p (caps.Promise r)))
      by true t = rw (t) tt
      by false t = rw (t) (rw (off_it (caps.Promise r) t) h)
  told_end (caps.Import i) h = h
  told_end (caps.Pipelined q path) h = h
  told_end (caps.Broken x) h = h

-- a value for it is one, or breaks it
pub value_or : (P : Cap → Type 0) (p : ℕ) (last value : Cap) → P value → ((x : Exception) → P (caps.Broken x)) → P (value_for p last value)
value_or P p caps.None value h broken = h
value_or P p (caps.Object k) value h broken = h
value_or P p (caps.Promise r) value h broken = by (r == p) refl
  where
    by : (b : Bool) → (r == p) ≡ b → P (value_for p (caps.Promise r) value)
    by true t = rw (t) (broken promise_loop)
    by false t = rw (t) h
value_or P p (caps.Import i) value h broken = h
value_or P p (caps.Pipelined q path) value h broken = h
value_or P p (caps.Broken x) value h broken = h

-- calls wait at these gates whatever they gave
pub any_promise : (s : State) (p : ℕ) (o : Option Cap) → IsUngivenIf s o (gates.Promise p)
any_promise s p None = tt
any_promise s p (Some c) = tt

pub any_question : (s : State) (q : ℕ) (path : List ℕ) (o : Option Cap) → IsUngivenIf s o (gates.Question q path)
any_question s q path None = tt
any_question s q path (Some c) = tt

pub any_embargo : (s : State) (n : ℕ) (o : Option Cap) → IsUngivenIf s o (gates.Embargo n)
any_embargo s n None = tt
any_embargo s n (Some c) = tt

-- where the value has a route, so has each capability that had one
module _ (values : ValueMaps) (p : ℕ) (v : Cap) (open_ : get values.promises p ≡ Some None) (route : HasRoute (with_value values p (Some v)) v) where
  pub routes_on : (c : Cap) → HasRoute values c → HasRoute (with_value values p (Some v)) c
  routes_on c h =
      ways_kept values (with_value values p (Some v)) (λ x. Unit {0}) (λ q any. promise_on q (p == q) refl)
      (λ q path any. same_way (with_value values p (Some v)) (λ x. Unit {0}) (question_way q path (get values.questions q)) (λ d is. tt)) c tt h
    where
      promise_on : (q : ℕ) (b : Bool) → (p == q) ≡ b
          → IsWayKept (with_value values p (Some v)) (λ x. Unit {0}) (promise_way q (get values.promises q))
          (promise_way q (get (insert values.promises p (Some v)) q))
      promise_on q true t =
          let is : get values.promises q ≡ Some None = rw (← is_equal p q t) open_ in
          rw (put_at values.promises p q (Some v) true t, is) route
      promise_on q false t = rw (put_at values.promises p q (Some v) false t)
          (same_way (with_value values p (Some v)) (λ x. Unit {0}) (promise_way q (get values.promises q)) (λ d is. tt))

module _ {s : State} {hand : Option Origin} {next : List Tied} (h : Within s hand next) (p : ℕ) (v : Cap) (open_ : get s.values.promises p ≡ Some None)
    (route : HasRoute (with_value s.values p (Some v)) v) (plain_v : IsPlain v) (there_v : IsThere s v) where
  settled_stays : (c : Cap) → IsThere s c → IsThere (settled s p v) c
  settled_stays = there_stays s (settled s p v) (put_stays s.values.promises p (Some v)) (λ i x. x) (λ q x. x)

  pub settled_fit : (c : Cap) → IsFit s c → IsFit (settled s p v) c
  settled_fit c fit = (fit.0, settled_stays c fit.1, routes_on s.values p v open_ route c fit.2)

  over_settled : (q : ℕ) (b : Bool) → (p == q) ≡ b → (value : Cap) → get (insert s.waiting.over.promises p v) q ≡ Some value
      → get (insert s.values.promises p (Some v)) q ≡ Some None → ⊥
  over_settled q true t value is at = none_out (sym (some_out (sym (put_at s.values.promises p q (Some v) true t) ∙ at)))
  over_settled q false t value is at =
      h.over_promises q value (sym (put_at s.waiting.over.promises p q v false t) ∙ is) (sym (put_at s.values.promises p q (Some v) false t) ∙ at)

  gift_of_promise : (q : ℕ) (cap : Cap) (b : Bool) → (p == q) ≡ b → get (insert s.waiting.over.promises p v) q ≡ Some cap → IsFit (settled s p v) cap
  gift_of_promise q cap true t is = rw (← some_out (sym (put_at s.waiting.over.promises p q v true t) ∙ is)) (plain_v, settled_stays v there_v, route)
  gift_of_promise q cap false t is = settled_fit cap (h.gifts (gates.Promise q) cap (sym (put_at s.waiting.over.promises p q v false t) ∙ is))

  gifts_settled : (gate : Gate) (cap : Cap) → gave (settled s p v).waiting.over gate ≡ Some cap → IsFit (settled s p v) cap
  gifts_settled (gates.Answer a path) cap is = settled_fit cap (h.gifts (gates.Answer a path) cap is)
  gifts_settled (gates.Promise q) cap is = gift_of_promise q cap (p == q) refl is
  gifts_settled (gates.Question q path) cap is = settled_fit cap (h.gifts (gates.Question q path) cap is)
  gifts_settled (gates.Embargo n) cap is = settled_fit cap (h.gifts (gates.Embargo n) cap is)

  gate_settled : (gate : Gate) → IsUngivenIf s (gave s.waiting.over gate) gate → IsUngivenIf (settled s p v) (gave (settled s p v).waiting.over gate) gate
  gate_settled (gates.Answer a path) was = same (gave s.waiting.over (gates.Answer a path)) was
    where
      same : (o : Option Cap) → IsUngivenIf s o (gates.Answer a path) → IsUngivenIf (settled s p v) o (gates.Answer a path)
      same None was = was
      same (Some c) was = tt
  gate_settled (gates.Promise q) was = any_promise (settled s p v) q (gave (settled s p v).waiting.over (gates.Promise q))
  gate_settled (gates.Question q path) was = any_question (settled s p v) q path (gave (settled s p v).waiting.over (gates.Question q path))
  gate_settled (gates.Embargo n) was = any_embargo (settled s p v) n (gave (settled s p v).waiting.over (gates.Embargo n))

  settled_there : AllKept (IsThere (settled s p v)) (settled s p v)
  settled_there =
      let moved = kept_map (IsThere s) (IsThere (settled s p v)) s.values s.waiting.calls s.marks.embargoes s.counts.exports settled_stays h.there in
      record {
        values_ = promise_put (IsThere (settled s p v)) s.values moved.values_ p (Some v) (λ w e. rw (← some_out e) (settled_stays v there_v));
        calls_ = moved.calls_;
        embargoes_ = moved.embargoes_;
        exports_ = moved.exports_;
      }

  settled_ends : AreValues (HasRoute (settled s p v).values) (settled s p v).values
  settled_ends =
      promise_put (HasRoute (settled s p v).values) s.values
      (values_map (HasRoute s.values) (HasRoute (settled s p v).values) s.values (routes_on s.values p v open_ route) h.ends.values_) p (Some v)
      (λ w e. rw (← some_out e) route)

  pub settled_within : (later : List Tied) → ((q : ℕ) → AreTiedRightly (settled s p v) later q) → Within (settled s p v) hand later
  settled_within later tied_ =
      let new : State = settled s p v in
      record {
        over_answers = h.over_answers;
        over_promises = λ q value is open_. over_settled q (p == q) refl value is open_;
        over_questions = h.over_questions;
        over_embargoes = h.over_embargoes;
        gifts = gifts_settled;
        answers = h.answers;
        questions = h.questions;
        waiting = h.waiting;
        forwards = h.forwards;
        wire = h.wire;
        forwarding = h.forwarding;
        gates_kept = each_kept (λ t (call : WaitingCall). IsUngivenIf s (gave s.waiting.over call.gate) call.gate)
            (λ t (call : WaitingCall). IsUngivenIf new (gave new.waiting.over call.gate) call.gate) s.waiting.calls 0 h.gates_kept
            (λ t call is. gate_settled call.gate);
        sendable = h.sendable;
        tied = tied_;
        untied = h.untied;
        owned = λ q own. put_stays s.values.promises p (Some v) q (h.owned q own);
        counts = h.counts;
        imported = h.imported;
        exports = each_kept (λ e x. IsExportable s x.kept) (λ e x. IsExportable new x.kept) s.counts.exports 0 h.exports
            (λ e x is. exportable_stays s new (put_stays s.values.promises p (Some v)) x.kept);
        one_export = h.one_export;
        there = settled_there;
        ends = all_end new settled_ends settled_there;
        embargoed = each_kept (λ n. IsExportable s) (λ n. IsExportable new) s.marks.embargoes 0 h.embargoed
            (λ n c is. exportable_stays s new (put_stays s.values.promises p (Some v)) c);
        plain = promise_put IsPlain s.values h.plain p (Some v) (λ w e. rw (← some_out e) plain_v);
        finished = h.finished;
        answers_valued = h.answers_valued;
        questions_valued = h.questions_valued;
        imports_valued = h.imports_valued;
        import_marks = h.import_marks;
        path_marks = h.path_marks;
        one_mark = h.one_mark;
        waited_for = h.waited_for;
      }

-- A promise is settled to a value that is fit, and what is fit stays so.
abbrev pub SettledWell : State → Option Origin → List Tied → State → Type 0
SettledWell s hand later new = Within new hand later × ((c : Cap) → IsFit s c → IsFit new c)

fit_only : (s new : State) → new ≡ with_exports s new.counts.exports → (c : Cap) → IsFit s c → IsFit new c
fit_only s new only c fit =
    let same : IsFit (with_exports s new.counts.exports) c = (fit.0, same_there s new.counts.exports c fit.1, fit.2) in
    rw (only) same
  where
    same_there : (s : State) (exports : Table (Counted Cap)) (c : Cap) → IsThere s c → IsThere (with_exports s exports) c
    same_there s exports c h = h

pub settle_keeps : (s : State) (hand : Option Origin) (next later : List Tied) (p : ℕ) (value : Cap) (done : Done) → Within s hand next
    → get s.values.promises p ≡ Some None
    → IsFit s value → ((v : Cap) (q : ℕ) → AreTiedRightly (settled s p v) later q) → Settle s p value (Ok done) → SettledWell s hand later done.1
settle_keeps s hand next later p value done h open_ fit tied_ (last, comes, tells) =
    let v : Cap = value_for p last value in
    let route = settled_route s.values p (Some v) open_ value last comes in
    let plain_v = value_or IsPlain p last value fit.0 (λ x. refl) in
    let there_v = value_or (IsThere s) p last value fit.1 (λ x. tt) in
    let mid = settled_within h p v open_ route plain_v there_v later (tied_ v) in
    let told = tells_keeps hand later (settled s p v) p (last_for p last) done mid
    (told_end s.values p (Some v) open_ last (comes_to_end s.values value last comes)) tells in
    (told.0, λ c is. fit_only (settled s p v) done.1 told.1 c (settled_fit h p v open_ route plain_v there_v c is))

-- the promises tied to an answer, one after another
unsettled_open : (o : Option (Option Cap)) (b : Bool) → one_if (is_unsettled o && b) ≡ 1 → o ≡ Some None
unsettled_open None b h = absurd (zero_one h)
  where
    zero_one : ◌≡◌ {A = ℕ} 0 1 → ⊥
    zero_one h = omega (arith, h)
unsettled_open (Some None) b h = refl
unsettled_open (Some (Some v)) b h = absurd (zero_one h)
  where
    zero_one : ◌≡◌ {A = ℕ} 0 1 → ⊥
    zero_one h = omega (arith, h)

one_at_most : (b : Bool) → one_if b ≤ 1
one_at_most true = omega arith
one_at_most false = omega arith

module _ (s : State) (hand : Option Origin) (tied : Tied) (more : List Tied) (h : Within s hand (tied ∷ more)) where
  tied_first : (q : ℕ) → tied_to q (tied ∷ more) ≡ cond (tied.promise == q) 1 0 + tied_to q more
  tied_first q = sum_by-cons (λ (t : Tied). cond (t.promise == q) 1 0) tied more

  abbrev holds_of : ℕ → Bool
  holds_of q = is_unsettled (get s.values.promises q) && not (set.contains s.entries.own_promises q)

  next_is : tied_in s tied.promise + (1 + tied_to tied.promise more) ≡ one_if (holds_of tied.promise)
  next_is =
      let one : tied_to tied.promise (tied ∷ more) ≡ 1 + tied_to tied.promise more = tied_first tied.promise ∙ ap (λ c. cond c 1 0 + tied_to tied.promise more)
      (is_itself tied.promise) in
      omega (arith, one, h.tied tied.promise)

  pub next_open : get s.values.promises tied.promise ≡ Some None
  next_open = unsettled_open (get s.values.promises tied.promise) (not (set.contains s.entries.own_promises tied.promise))
      (omega (arith, next_is, one_at_most (holds_of tied.promise)))

  pub tied_on : (v : Cap) (q : ℕ) → AreTiedRightly (settled s tied.promise v) more q
  tied_on v q = by (tied.promise == q) refl
    where
      by : (b : Bool) → (tied.promise == q) ≡ b → AreTiedRightly (settled s tied.promise v) more q
      by true t =
          let same : tied.promise ≡ q = is_equal tied.promise q t in
          let none : tied_in s q + (1 + tied_to q more) ≡ one_if (holds_of q) = rw (← same) next_is in
          rw (put_at s.values.promises tied.promise q (Some v) true t) (omega (arith, none, one_at_most (holds_of q)))
      by false t =
          let old : tied_to q (tied ∷ more) ≡ 0 + tied_to q more = tied_first q ∙ ap (λ c. cond c 1 0 + tied_to q more) t in
          rw (put_at s.values.promises tied.promise q (Some v) false t) (omega (arith, old, h.tied q))

pub settle_tied_keeps : (next : List Tied) (s : State) (hand : Option Origin) (outcome : Outcome) (done : Done) → Within s hand next
    → AllByRecursion (IsFit s) (caps_of outcome)
    → SettleTied s outcome next (Ok done) → SettledWell s hand [] done.1
settle_tied_keeps [] s hand outcome done h fit is = rw (ok_in _ _ is) (h, λ c x. x)
settle_tied_keeps (tied ∷ more) s hand outcome done h fit is =
    let first = then_out {A = Done} {B = Done} (Settle s tied.promise (cap_at outcome tied.path)) _ done is in
    let rest = then_out {A = Done} {B = Done} (SettleTied first.0.1 outcome more) _ done first.2 in
    let one = settle_keeps s hand (tied ∷ more) more tied.promise (cap_at outcome tied.path) first.0 h (next_open s hand tied more h)
    (fit_at s outcome tied.path fit)
    (tied_on s hand tied more h) first.1 in
    let last = settle_tied_keeps more first.0.1 hand outcome rest.0 one.0 (all_of (IsFit s) (IsFit first.0.1) (caps_of outcome) one.1 fit) rest.1 in
    rw (ok_in _ _ rest.2) (last.0, λ c x. last.1 c (one.1 c x))
