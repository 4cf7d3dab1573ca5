-- Gates that end: what each call of `Gates` keeps.
use Rattle.std.proofs.Common.{◌≡◌, ◌≢◌, ◌⊎◌, ◌-◌, ◌==◌, ◌||◌, ◌&&◌, not, List, [], ◌<◌, Bool, true, false, true≢false, is_some, IfSome, Option, ℕ, Some, None, inl, inr, refl, sym, ap, ◌∙◌, arith}
use Rattle.std.specs.Option.{option_map}
use Rattle.std.proofs.lemmas.Bool.{cases_eq}
use Rattle.std.proofs.lemmas.Bool.Decides.{nat_tests}
use Rattle.std.specs.FinMap.{get, insert, remove, empty, get-empty}
use Rattle.std.specs.FinSet as set
use Rattle.std.specs.Ordering.{nat_cmp, eq_by_cmp}
use Rattle.std.specs.Cmp.{nat_cmp_total}
use Rattle.cp_tables.proofs.TableLemmas.{get-insert_same, get-insert_other, get-remove_same, get-remove_other}
use Rattle.cp_refs.specs.At.{cap_at}
use Rattle.cp_refs.specs.Waiting.{Waits, is_same_gate, waits_at, Ends, Leaves}
use Rattle.cp_refs.specs.declared.cap.Cap.{Cap}
use Rattle.cp_refs.specs.declared.outcome.Outcome.{Outcome}
use Rattle.cp_refs.specs.declared.call.WaitingCall.{WaitingCall}
use Rattle.cp_refs.specs.declared.route.Gate.{Gate}
use Rattle.cp_refs.specs.declared.route.Gate.TheVariants as gates
use Rattle.cp_vat_machine.specs.State.{Over, gave, none_over}
use Rattle.cp_tables.specs.Table.{Table}
use Rattle.cp_vat_state.specs.declared.gates.Fulfillment.{Fulfillment}
use Rattle.cp_vat_state.specs.declared.gates.Fulfillment.TheVariants as gifts
use Rattle.cp_vat_state.specs.Overs.{gate_of, bare_gate, over_with, ended_at, AreOver, AreBelow, NoneOverIn, IsNextIn}
use Rattle.cp_vat_state.proofs.Indexing.{every, if_some, not_some}

-- they are one gate, at whatever paths
abbrev same_key : Gate → Gate → Type 0
same_key (gates.Answer a path) (gates.Answer b other) = a ≡ b
same_key (gates.Promise p) (gates.Promise q) = p ≡ q
same_key (gates.Question p path) (gates.Question q other) = p ≡ q
same_key (gates.Embargo e) (gates.Embargo f) = e ≡ f
same_key gate other = ⊥

or_true : (x : Bool) → (x || true) ≡ true
or_true true = refl
or_true false = refl

or_false : (x : Bool) → (x || false) ≡ x
or_false true = refl
or_false false = refl

eq_same : (a b : ℕ) → a ≡ b → (a == b) ≡ true
eq_same a b h = grind (arith, nat_tests)

eq_other : (a b : ℕ) → a ≢ b → (a == b) ≡ false
eq_other a b h = grind (arith, nat_tests)

pub answers-more : (over : Over) (a : ℕ) (x : Outcome) (path : List ℕ) (g : Gate) → is_some (gave (record over { answers = insert over.answers a x }) g) ≡ (is_some (gave over g) || is_same_gate (gates.Answer a path) g)
answers-more over a x path (gates.Answer b p) =
    elim (cases_eq b a) [
      | inl same ↦ ap (λ o. is_some (option_map (λ outcome. cap_at outcome p) (o))) (ap (λ k. get (insert over.answers a x) k) same ∙ get-insert_same over.answers a x) ∙ sym (ap (λ q. is_some (option_map (λ outcome. cap_at outcome p) (get over.answers b)) || q) (eq_same a b (sym same)) ∙ or_true _)
      | inr other ↦ ap (λ o. is_some (option_map (λ outcome. cap_at outcome p) (o))) (get-insert_other over.answers a b x other) ∙ sym (ap (λ q. is_some (option_map (λ outcome. cap_at outcome p) (get over.answers b)) || q) (eq_other a b (λ e. other (sym e))) ∙ or_false _)
    ]
answers-more over a x path (gates.Promise b) = sym (or_false _)
answers-more over a x path (gates.Question b p) = sym (or_false _)
answers-more over a x path (gates.Embargo b) = sym (or_false _)

pub promises-more : (over : Over) (a : ℕ) (x : Cap) (g : Gate) → is_some (gave (record over { promises = insert over.promises a x }) g) ≡ (is_some (gave over g) || is_same_gate (gates.Promise a) g)
promises-more over a x (gates.Answer b p) = sym (or_false _)
promises-more over a x (gates.Promise b) =
    elim (cases_eq b a) [
      | inl same ↦ ap (λ o. is_some (o)) (ap (λ k. get (insert over.promises a x) k) same ∙ get-insert_same over.promises a x) ∙ sym (ap (λ q. is_some (get over.promises b) || q) (eq_same a b (sym same)) ∙ or_true _)
      | inr other ↦ ap (λ o. is_some (o)) (get-insert_other over.promises a b x other) ∙ sym (ap (λ q. is_some (get over.promises b) || q) (eq_other a b (λ e. other (sym e))) ∙ or_false _)
    ]
promises-more over a x (gates.Question b p) = sym (or_false _)
promises-more over a x (gates.Embargo b) = sym (or_false _)

pub questions-more : (over : Over) (a : ℕ) (x : Outcome) (path : List ℕ) (g : Gate) → is_some (gave (record over { questions = insert over.questions a x }) g) ≡ (is_some (gave over g) || is_same_gate (gates.Question a path) g)
questions-more over a x path (gates.Answer b p) = sym (or_false _)
questions-more over a x path (gates.Promise b) = sym (or_false _)
questions-more over a x path (gates.Question b p) =
    elim (cases_eq b a) [
      | inl same ↦ ap (λ o. is_some (option_map (λ outcome. cap_at outcome p) (o))) (ap (λ k. get (insert over.questions a x) k) same ∙ get-insert_same over.questions a x) ∙ sym (ap (λ q. is_some (option_map (λ outcome. cap_at outcome p) (get over.questions b)) || q) (eq_same a b (sym same)) ∙ or_true _)
      | inr other ↦ ap (λ o. is_some (option_map (λ outcome. cap_at outcome p) (o))) (get-insert_other over.questions a b x other) ∙ sym (ap (λ q. is_some (option_map (λ outcome. cap_at outcome p) (get over.questions b)) || q) (eq_other a b (λ e. other (sym e))) ∙ or_false _)
    ]
questions-more over a x path (gates.Embargo b) = sym (or_false _)

pub embargoes-more : (over : Over) (a : ℕ) (x : Cap) (g : Gate) → is_some (gave (record over { embargoes = insert over.embargoes a x }) g) ≡ (is_some (gave over g) || is_same_gate (gates.Embargo a) g)
embargoes-more over a x (gates.Answer b p) = sym (or_false _)
embargoes-more over a x (gates.Promise b) = sym (or_false _)
embargoes-more over a x (gates.Question b p) = sym (or_false _)
embargoes-more over a x (gates.Embargo b) =
    elim (cases_eq b a) [
      | inl same ↦ ap (λ o. is_some (o)) (ap (λ k. get (insert over.embargoes a x) k) same ∙ get-insert_same over.embargoes a x) ∙ sym (ap (λ q. is_some (get over.embargoes b) || q) (eq_same a b (sym same)) ∙ or_true _)
      | inr other ↦ ap (λ o. is_some (o)) (get-insert_other over.embargoes a b x other) ∙ sym (ap (λ q. is_some (get over.embargoes b) || q) (eq_other a b (λ e. other (sym e))) ∙ or_false _)
    ]

-- a gate that gives something has ended, and those that had ended stay so
pub fulfillment-more : (over : Over) (fulfillment : Fulfillment) (g : Gate) → is_some (gave (over_with over fulfillment) g) ≡ (is_some (gave over g) || is_same_gate (gate_of fulfillment) g)
fulfillment-more over (gifts.Answer a outcome) g = answers-more over a outcome [] g
fulfillment-more over (gifts.Promise p value) g = promises-more over p value g
fulfillment-more over (gifts.Question q outcome) g = questions-more over q outcome [] g
fulfillment-more over (gifts.Embargo n cap) g = embargoes-more over n cap g

ended_more : (over new : Over) (gate : Gate) → ((g : Gate) → is_some (gave new g) ≡ (is_some (gave over g) || is_same_gate gate g)) → (o : Option WaitingCall) → ended_at new o ≡ (ended_at over o || waits_at gate o)
ended_more over new gate more None = refl
ended_more over new gate more (Some call) = more call.gate

-- a gate ends
pub over-more : (waits later : Waits) (over new : Over) (gate : Gate) → Ends waits gate later → AreOver waits over → ((g : Gate) → is_some (gave new g) ≡ (is_some (gave over g) || is_same_gate gate g)) → AreOver later new
over-more waits later over new gate ends are more ticket =
    ends.ended ticket ∙ ap (λ b. b || waits_at gate (get waits.calls ticket)) (are ticket)
    ∙ sym (ended_more over new gate more (get waits.calls ticket)) ∙ ap (λ calls. ended_at new (get calls ticket)) (sym ends.calls)

none_ended : (o : Option WaitingCall) → ended_at none_over o ≡ false
none_ended None = refl
none_ended (Some call) = none_given call.gate
  where
    none_given : (g : Gate) → is_some (gave none_over g) ≡ false
    none_given (gates.Answer a path) = ap (λ o. is_some (option_map (λ outcome. cap_at outcome path) o)) (get-empty nat_cmp a)
    none_given (gates.Promise p) = ap is_some (get-empty nat_cmp p)
    none_given (gates.Question q path) = ap (λ o. is_some (option_map (λ outcome. cap_at outcome path) o)) (get-empty nat_cmp q)
    none_given (gates.Embargo n) = ap is_some (get-empty nat_cmp n)

-- without calls and ended gates none is over
pub over-new : AreOver (record { calls = empty; ended = set.empty }) none_over
over-new ticket = set.contains-empty nat_cmp ticket ∙ sym (none_ended _)

is_none : {X : Type 0} (o : Option X) → is_some o ≡ false → o ≡ None
is_none None h = refl
is_none (Some x) h = absurd (true≢false h)

-- where no ticket is among those of ended gates, no call's gate has ended
pub none_over_in : (waits : Waits) (over : Over) → AreOver waits over → waits.ended ≡ set.empty → NoneOverIn (record { calls = waits.calls; over = over })
none_over_in waits over are none ticket =
    every _ (get waits.calls ticket) (λ call there.
    is_none _ (ap (ended_at over) (sym there) ∙ sym (are ticket) ∙ ap (λ s. set.contains s ticket) none ∙ set.contains-empty nat_cmp ticket))

ended_none : (over : Over) (o : Option WaitingCall) → IfSome o (λ call. gave over call.gate ≡ None) → ended_at over o ≡ false
ended_none over None h = refl
ended_none over (Some call) h = ap is_some h

-- the gates that ended may be forgotten
pub over-forgotten : (waits : Waits) (over : Over) → AreOver waits over → NoneOverIn (record { calls = waits.calls; over = over }) → AreOver waits none_over
over-forgotten waits over are none ticket = are ticket ∙ ended_none over _ (none ticket) ∙ sym (none_ended _)

and_false : (x : Bool) → (true && x) ≡ x
and_false x = refl

eq_by : (q k : ℕ) → q ≡ k → eq_by_cmp nat_cmp q k ≡ true
eq_by q k h = grind (arith, nat_tests)

eq_by_not : (q k : ℕ) → q ≢ k → eq_by_cmp nat_cmp q k ≡ false
eq_by_not q k h = grind (arith, nat_tests)

-- a call leaves
pub over-left : (waits later : Waits) (over : Over) (call : WaitingCall) → Leaves waits call later → AreOver waits over → AreOver later over
over-left waits later over call left are ticket =
    ap (λ w. set.contains w.ended ticket) left.rest ∙ at (cases_eq ticket call.ticket) ∙ ap (λ w. ended_at over (get w.calls ticket)) (sym left.rest)
  where
    at : (ticket ≡ call.ticket) ⊎ (ticket ≢ call.ticket) → set.contains (set.remove waits.ended call.ticket) ticket ≡ ended_at over (get (remove waits.calls call.ticket) ticket)
    at (inl same) =
        set.contains-remove nat_cmp_total waits.ended call.ticket ticket ∙ ap (λ b. not b && set.contains waits.ended ticket) (eq_by ticket call.ticket same)
        ∙ sym (ap (ended_at over) (ap (λ k. get (remove waits.calls call.ticket) k) same ∙ get-remove_same waits.calls call.ticket))
    at (inr other) =
        set.contains-remove nat_cmp_total waits.ended call.ticket ticket ∙ ap (λ b. not b && set.contains waits.ended ticket) (eq_by_not ticket call.ticket other)
        ∙ are ticket ∙ sym (ap (ended_at over) (get-remove_other waits.calls call.ticket ticket other))

some_of : {X : Type 0} (o : Option X) → is_some o ≡ true → (x : X) × (o ≡ Some x)
some_of None h = absurd (true≢false (sym h))
some_of (Some x) h = (x, refl)

-- its gate gave something
pub was_given : (waits later : Waits) (over : Over) (call : WaitingCall) → Leaves waits call later → AreOver waits over → (cap : Cap) × (gave over call.gate ≡ Some cap)
was_given waits later over call left are = some_of _ (ap (ended_at over) (sym left.waited) ∙ sym (are call.ticket) ∙ left.was_ended)

-- the call that leaves is the next
pub is_next : (waits later : Waits) (over : Over) (call : WaitingCall) (cap : Cap) → Leaves waits call later → AreOver waits over → Some cap ≡ gave over call.gate → IsNextIn (record { calls = waits.calls; over = over }) call cap
is_next waits later over call cap left are gives =
    record {
      waits = left.waited;
      ended = sym gives;
      lowest = λ ticket other given there gave_it. left.lowest ticket (are ticket ∙ ap (ended_at over) there ∙ ap is_some gave_it);
    }

-- a call is held whose gate hasn't ended
pub over-held : (waits : Waits) (over : Over) (call : WaitingCall) → AreOver waits over → get waits.calls call.ticket ≡ None → is_some (gave over call.gate) ≡ false → AreOver (record waits { calls = insert waits.calls call.ticket call }) over
over-held waits over call are free not_over ticket =
    elim (cases_eq ticket call.ticket) [
      | inl same ↦ are ticket ∙ ap (ended_at over) (ap (λ k. get waits.calls k) same ∙ free) ∙ sym (ap (ended_at over) (ap (λ k. get (insert waits.calls call.ticket call) k) same ∙ get-insert_same waits.calls call.ticket call) ∙ not_over)
      | inr other ↦ are ticket ∙ sym (ap (ended_at over) (get-insert_other waits.calls call.ticket ticket call other))
    ]

is_some_map : {X Y : Type 0} (f g : X → Y) (o : Option X) → is_some (option_map f o) ≡ is_some (option_map g o)
is_some_map f g None = refl
is_some_map f g (Some x) = refl

-- one gate at two paths is over at both
same_over : (over : Over) (g h : Gate) → same_key g h → is_some (gave over g) ≡ is_some (gave over h)
same_over over (gates.Answer a p) (gates.Answer b q) h = ap (λ k. is_some (option_map (λ outcome. cap_at outcome p) (get over.answers k))) h ∙ is_some_map _ _ (get over.answers b)
same_over over (gates.Answer a p) (gates.Promise b) h = absurd h
same_over over (gates.Answer a p) (gates.Question b q) h = absurd h
same_over over (gates.Answer a p) (gates.Embargo b) h = absurd h
same_over over (gates.Promise a) (gates.Answer b q) h = absurd h
same_over over (gates.Promise a) (gates.Promise b) h = ap (λ k. is_some (get over.promises k)) h
same_over over (gates.Promise a) (gates.Question b q) h = absurd h
same_over over (gates.Promise a) (gates.Embargo b) h = absurd h
same_over over (gates.Question a p) (gates.Answer b q) h = absurd h
same_over over (gates.Question a p) (gates.Promise b) h = absurd h
same_over over (gates.Question a p) (gates.Question b q) h = ap (λ k. is_some (option_map (λ outcome. cap_at outcome p) (get over.questions k))) h ∙ is_some_map _ _ (get over.questions b)
same_over over (gates.Question a p) (gates.Embargo b) h = absurd h
same_over over (gates.Embargo a) (gates.Answer b q) h = absurd h
same_over over (gates.Embargo a) (gates.Promise b) h = absurd h
same_over over (gates.Embargo a) (gates.Question b q) h = absurd h
same_over over (gates.Embargo a) (gates.Embargo b) h = ap (λ k. is_some (get over.embargoes k)) h

same_gate : (g h : Gate) → same_key g h → is_same_gate g h ≡ true
same_gate (gates.Answer a p) (gates.Answer b q) h = eq_same a b h
same_gate (gates.Answer a p) (gates.Promise b) h = absurd h
same_gate (gates.Answer a p) (gates.Question b q) h = absurd h
same_gate (gates.Answer a p) (gates.Embargo b) h = absurd h
same_gate (gates.Promise a) (gates.Answer b q) h = absurd h
same_gate (gates.Promise a) (gates.Promise b) h = eq_same a b h
same_gate (gates.Promise a) (gates.Question b q) h = absurd h
same_gate (gates.Promise a) (gates.Embargo b) h = absurd h
same_gate (gates.Question a p) (gates.Answer b q) h = absurd h
same_gate (gates.Question a p) (gates.Promise b) h = absurd h
same_gate (gates.Question a p) (gates.Question b q) h = eq_same a b h
same_gate (gates.Question a p) (gates.Embargo b) h = absurd h
same_gate (gates.Embargo a) (gates.Answer b q) h = absurd h
same_gate (gates.Embargo a) (gates.Promise b) h = absurd h
same_gate (gates.Embargo a) (gates.Question b q) h = absurd h
same_gate (gates.Embargo a) (gates.Embargo b) h = eq_same a b h

over_again : (over : Over) (gate g : Gate) → is_some (gave over gate) ≡ true → (is_some (gave over g) || is_same_gate gate g) ≡ is_some (gave over g)
over_again over (gates.Answer a p) (gates.Answer b q) is =
    elim (cases_eq a b) [
      | inl same ↦ let there = sym (same_over over (gates.Answer a p) (gates.Answer b q) same) ∙ is in ap (λ x. x || (a == b)) there ∙ sym there
      | inr other ↦ ap (λ w. is_some (gave over (gates.Answer b q)) || w) (eq_other a b other) ∙ or_false _
    ]
over_again over (gates.Answer a p) (gates.Promise b) is = or_false _
over_again over (gates.Answer a p) (gates.Question b q) is = or_false _
over_again over (gates.Answer a p) (gates.Embargo b) is = or_false _
over_again over (gates.Promise a) (gates.Answer b q) is = or_false _
over_again over (gates.Promise a) (gates.Promise b) is =
    elim (cases_eq a b) [
      | inl same ↦ let there = sym (same_over over (gates.Promise a) (gates.Promise b) same) ∙ is in ap (λ x. x || (a == b)) there ∙ sym there
      | inr other ↦ ap (λ w. is_some (gave over (gates.Promise b)) || w) (eq_other a b other) ∙ or_false _
    ]
over_again over (gates.Promise a) (gates.Question b q) is = or_false _
over_again over (gates.Promise a) (gates.Embargo b) is = or_false _
over_again over (gates.Question a p) (gates.Answer b q) is = or_false _
over_again over (gates.Question a p) (gates.Promise b) is = or_false _
over_again over (gates.Question a p) (gates.Question b q) is =
    elim (cases_eq a b) [
      | inl same ↦ let there = sym (same_over over (gates.Question a p) (gates.Question b q) same) ∙ is in ap (λ x. x || (a == b)) there ∙ sym there
      | inr other ↦ ap (λ w. is_some (gave over (gates.Question b q)) || w) (eq_other a b other) ∙ or_false _
    ]
over_again over (gates.Question a p) (gates.Embargo b) is = or_false _
over_again over (gates.Embargo a) (gates.Answer b q) is = or_false _
over_again over (gates.Embargo a) (gates.Promise b) is = or_false _
over_again over (gates.Embargo a) (gates.Question b q) is = or_false _
over_again over (gates.Embargo a) (gates.Embargo b) is =
    elim (cases_eq a b) [
      | inl same ↦ let there = sym (same_over over (gates.Embargo a) (gates.Embargo b) same) ∙ is in ap (λ x. x || (a == b)) there ∙ sym there
      | inr other ↦ ap (λ w. is_some (gave over (gates.Embargo b)) || w) (eq_other a b other) ∙ or_false _
    ]

ended_again : (over : Over) (gate : Gate) → is_some (gave over gate) ≡ true → (o : Option WaitingCall) → (ended_at over o || waits_at gate o) ≡ ended_at over o
ended_again over gate is None = refl
ended_again over gate is (Some call) = over_again over gate call.gate is

-- a call is held whose gate has ended
pub over-held_over : (waits later last : Waits) (over : Over) (call : WaitingCall) (gate : Gate) → AreOver waits over → get waits.calls call.ticket ≡ None → later ≡ record waits { calls = insert waits.calls call.ticket call } → same_key gate call.gate → is_some (gave over gate) ≡ true → Ends later gate last → AreOver last over
over-held_over waits later last over call gate are free is_later same is ends ticket =
    ends.ended ticket ∙ ap (λ w. set.contains w.ended ticket || waits_at gate (get w.calls ticket)) is_later ∙ at (cases_eq ticket call.ticket)
    ∙ sym (ap (λ calls. ended_at over (get calls ticket)) (ends.calls ∙ ap (λ w. w.calls) is_later))
  where
    at : (ticket ≡ call.ticket) ⊎ (ticket ≢ call.ticket) → (set.contains waits.ended ticket || waits_at gate (get (insert waits.calls call.ticket call) ticket)) ≡ ended_at over (get (insert waits.calls call.ticket call) ticket)
    at (inl e) =
        let there : get (insert waits.calls call.ticket call) ticket ≡ Some call = ap (λ k. get (insert waits.calls call.ticket call) k) e ∙ get-insert_same waits.calls call.ticket call in
        ap (λ o. set.contains waits.ended ticket || waits_at gate o) there ∙ ap (λ b. set.contains waits.ended ticket || b) (same_gate gate call.gate same) ∙ or_true _
        ∙ sym (ap (ended_at over) there ∙ sym (same_over over gate call.gate same) ∙ is)
    at (inr e) =
        let there = get-insert_other waits.calls call.ticket ticket call e in
        ap (λ o. set.contains waits.ended ticket || waits_at gate o) there ∙ ap (λ b. b || waits_at gate (get waits.calls ticket)) (are ticket)
        ∙ ended_again over gate is (get waits.calls ticket) ∙ sym (ap (ended_at over) there)

-- a call is held whose gate hasn't ended, which was looked up at another path
pub over-held_at : (waits later : Waits) (over : Over) (call : WaitingCall) (gate : Gate) → AreOver waits over → get waits.calls call.ticket ≡ None → later ≡ record waits { calls = insert waits.calls call.ticket call } → same_key gate call.gate → is_some (gave over gate) ≡ false → AreOver later over
over-held_at waits later over call gate are free is_later same is = rw is_later (over-held waits over call are free (sym (same_over over gate call.gate same) ∙ is))

-- a gate without its path is the same gate
pub same-bare : (g : Gate) → same_key (bare_gate g) g
same-bare (gates.Answer a path) = refl
same-bare (gates.Promise p) = refl
same-bare (gates.Question q path) = refl
same-bare (gates.Embargo n) = refl

-- ---- tickets that were given
-- no call has one
pub below-new : (next : ℕ) → AreBelow empty next
below-new next ticket = rw (get-empty nat_cmp ticket) tt

-- a call with one is held
pub below-held : (calls : Table WaitingCall) (next : ℕ) (call : WaitingCall) → AreBelow calls next → call.ticket < next → AreBelow (insert calls call.ticket call) next
below-held calls next call below given ticket =
    elim (cases_eq ticket call.ticket) [
      | inl same ↦ rw (same, get-insert_same calls call.ticket call) given
      | inr other ↦ rw (get-insert_other calls call.ticket ticket call other) (below ticket)
    ]

-- a call leaves
pub below-left : (calls : Table WaitingCall) (next ticket : ℕ) → AreBelow calls next → AreBelow (remove calls ticket) next
below-left calls next ticket below other =
    elim (cases_eq other ticket) [
      | inl same ↦ rw (same, get-remove_same calls ticket) tt
      | inr apart ↦ rw (get-remove_other calls ticket other apart) (below other)
    ]

-- a ticket that no call has is taken back
pub below-back : (calls : Table WaitingCall) (next : ℕ) → AreBelow calls next → 0 < next → get calls (next - 1) ≡ None → AreBelow calls (next - 1)
below-back calls next below some free ticket = every _ (get calls ticket) (λ call there.
    let given = if_some (λ _. ticket < next) (get calls ticket) call there (below ticket) in
    let other : ticket ≢ next - 1 = λ same. not_some call (sym free ∙ ap (get calls) (sym same) ∙ there) in
    omega (arith, given, some, other))
