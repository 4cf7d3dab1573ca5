-- Queues of waiting calls: what each call of `Waiting` keeps.
use Rattle.std.proofs.Common.{◌≡◌, ◌≢◌, ℕ, ◌==◌, Option, Some, None, IsSome, IsTrue, inl, inr, refl, sym, ◌∙◌, arith}
use Rattle.std.specs.Prelude.{◌||◌, ◌&&◌, not}
use mathlib.Core.Bool.{Bool, true, false, true≢false}
use Rattle.std.proofs.lemmas.Bool.{cases_eq}
use Rattle.std.proofs.lemmas.Bool.Decides.{nat_tests}
use Rattle.std.specs.Ordering.{nat_cmp}
use Rattle.std.specs.FinMap.{get, insert, remove, get-empty}
use Rattle.std.specs.FinMap as map
use Rattle.std.specs.FinSet.{FinSet, contains, contains-empty}
use Rattle.std.specs.FinSet as set
use Rattle.cp_tables.specs.Table.{Table}
use Rattle.cp_tables.proofs.TableLemmas.{same_table, remove-insert, get-insert_same, get-insert_other, get-remove_same, get-remove_other}
use Rattle.cp_refs.proofs.TicketLemmas.{contains-insert_nat, contains-remove_nat}
use Rattle.cp_refs.specs.Queues.{key_of, stands_at, queue_of, is_queued, AreQueued}
use Rattle.cp_refs.specs.Waiting.{is_same_gate, waits_at, Ends}
use Rattle.cp_refs.specs.declared.call.WaitingCall.{WaitingCall}
use Rattle.cp_refs.specs.declared.route.Gate.{Gate}
use Rattle.cp_refs.specs.declared.route.Gate.TheVariants as gates

-- ---- keys
-- a call stands at the key of a gate exactly if it waits at that gate
same_key : (a b : Gate) → (key_of b == key_of a) ≡ is_same_gate a b
same_key (gates.Answer a path) (gates.Answer b other) = grind (arith, nat_tests)
same_key (gates.Answer a path) (gates.Promise b) = grind (arith, nat_tests)
same_key (gates.Answer a path) (gates.Question b other) = grind (arith, nat_tests)
same_key (gates.Answer a path) (gates.Embargo b) = grind (arith, nat_tests)
same_key (gates.Promise a) (gates.Answer b other) = grind (arith, nat_tests)
same_key (gates.Promise a) (gates.Promise b) = grind (arith, nat_tests)
same_key (gates.Promise a) (gates.Question b other) = grind (arith, nat_tests)
same_key (gates.Promise a) (gates.Embargo b) = grind (arith, nat_tests)
same_key (gates.Question a path) (gates.Answer b other) = grind (arith, nat_tests)
same_key (gates.Question a path) (gates.Promise b) = grind (arith, nat_tests)
same_key (gates.Question a path) (gates.Question b other) = grind (arith, nat_tests)
same_key (gates.Question a path) (gates.Embargo b) = grind (arith, nat_tests)
same_key (gates.Embargo a) (gates.Answer b other) = grind (arith, nat_tests)
same_key (gates.Embargo a) (gates.Promise b) = grind (arith, nat_tests)
same_key (gates.Embargo a) (gates.Question b other) = grind (arith, nat_tests)
same_key (gates.Embargo a) (gates.Embargo b) = grind (arith, nat_tests)

stands-waits : (gate : Gate) (call : Option WaitingCall) → stands_at (key_of gate) call ≡ waits_at gate call
stands-waits gate None = refl
stands-waits gate (Some call) = same_key gate call.gate

-- ---- truth values
false_if : (b : Bool) → (b ≡ true → ⊥) → b ≡ false
false_if true h = absurd (h refl)
false_if false h = refl

and_true : (a b : Bool) → (a && b) ≡ true → a ≡ true
and_true true b h = refl
and_true false b h = absurd (true≢false (sym h))

stands-some : (key : ℕ) (call : Option WaitingCall) → stands_at key call ≡ true → IsSome call
stands-some key None h = absurd (true≢false (sym h))
stands-some key (Some call) h = refl

-- a call stands at one key only
one_place : (k other : ℕ) (call : Option WaitingCall) → k ≢ other → stands_at k call ≡ true → stands_at other call ≡ true → ⊥
one_place k other None d h i = true≢false (sym h)
one_place k other (Some call) d h i = absurd (grind (arith, nat_tests, d, h, i))

equal_itself : (k : ℕ) → (k == k) ≡ true
equal_itself k = grind (arith, nat_tests)

differ : (k q : ℕ) → k ≢ q → (k == q) ≡ false
differ k q d = grind (arith, nat_tests, d)

-- ---- queues
-- the queue that was put there, and the others
queue-insert_same : (queues : Table (FinSet nat_cmp)) (k : ℕ) (queue : FinSet nat_cmp) → queue_of (insert queues k queue) k ≡ queue
queue-insert_same queues k queue = rw (get-insert_same queues k queue)

queue-insert_other : (queues : Table (FinSet nat_cmp)) (k q : ℕ) (queue : FinSet nat_cmp) → q ≢ k → queue_of (insert queues k queue) q ≡ queue_of queues q
queue-insert_other queues k q queue d = rw (get-insert_other queues k q queue d)

queue-remove_same : (queues : Table (FinSet nat_cmp)) (k : ℕ) → queue_of (remove queues k) k ≡ set.empty
queue-remove_same queues k = rw (get-remove_same queues k)

queue-remove_other : (queues : Table (FinSet nat_cmp)) (k q : ℕ) → q ≢ k → queue_of (remove queues k) q ≡ queue_of queues q
queue-remove_other queues k q d = rw (get-remove_other queues k q d)

-- nothing is in a queue that isn't there
pub none_queued : (queues : Table (FinSet nat_cmp)) (k : ℕ) → get queues k ≡ None → (t : ℕ) → is_queued queues k t ≡ false
none_queued queues k h t = rw h (contains-empty nat_cmp t)

pub or_none : (a b : Bool) → b ≡ false → a ≡ (a || b)
or_none true b h = refl
or_none false b h = sym h

module _ {X : Type 0} where
  -- to remove what isn't there changes nothing
  pub remove-none : (m : Table X) (k : ℕ) → get m k ≡ None → m ≡ remove m k
  remove-none m k h = same_table m (remove m k) (λ q.
      elim (cases_eq q k) [
        | inl same ↦ rw (same, get-remove_same m k) h
        | inr other ↦ sym (get-remove_other m k q other)
      ])

  -- an entry that is put in and removed again leaves nothing
  pub put-back : (m : Table X) (k : ℕ) (v : X) → get m k ≡ None → remove (insert m k v) k ≡ m
  put-back m k v h = remove-insert m k v ∙ sym (remove-none m k h)

-- at the start nothing waits
pub queued-empty : AreQueued map.empty map.empty set.empty
queued-empty = record {
  ticketed = λ t. rw (get-empty nat_cmp t) tt;
  waited = λ t h. absurd (true≢false (sym h ∙ contains-empty nat_cmp t));
  queued = λ k t. rw (get-empty nat_cmp k, get-empty nat_cmp t) (contains-empty nat_cmp t);
}

module _ (calls : Table WaitingCall) (queues : Table (FinSet nat_cmp)) (ended : FinSet nat_cmp) (kept : AreQueued calls queues ended) where
  -- the gate of a ticket without a call wasn't ended
  pub not_ended : (t : ℕ) → get calls t ≡ None → contains ended t ≡ false
  not_ended t h = false_if (contains ended t) (λ e. true≢false (sym (rw h at (kept.waited t e))))

  -- a ticket whose gate was ended is in no queue
  pub ended_not_queued : (k t : ℕ) → IsTrue (contains ended t) → is_queued queues k t ≡ false
  ended_not_queued k t h = kept.queued k t ∙ rw h (and_false (stands_at k (get calls t)))
    where
      and_false : (b : Bool) → (b && false) ≡ false
      and_false true = refl
      and_false false = refl

  -- a new call stands in its gate's queue
  pub queued-held : (call : WaitingCall) → get calls call.ticket ≡ None → AreQueued (insert calls call.ticket call) (insert queues (key_of call.gate) (set.insert (queue_of queues (key_of call.gate)) call.ticket)) ended
  queued-held call none = record {
    ticketed = λ t.
        elim (cases_eq t call.ticket) [
          | inl same ↦ rw (same, get-insert_same calls call.ticket call)
          | inr other ↦ rw (get-insert_other calls call.ticket t call other) (kept.ticketed t)
        ];
    waited = λ t h.
        elim (cases_eq t call.ticket) [
          | inl same ↦ rw (same, get-insert_same calls call.ticket call)
          | inr other ↦ rw (get-insert_other calls call.ticket t call other) (kept.waited t h)
        ];
    queued = λ k t.
        elim (cases_eq k (key_of call.gate)) [
          | inl here ↦ rw (here, queue-insert_same queues (key_of call.gate) (set.insert (queue_of queues (key_of call.gate)) call.ticket), contains-insert_nat (queue_of queues (key_of call.gate)) call.ticket t) (at_gate t)
          | inr there ↦ rw (queue-insert_other queues (key_of call.gate) k (set.insert (queue_of queues (key_of call.gate)) call.ticket) there) (kept.queued k t ∙ elsewhere k t there)
        ];
  }
    where
      at_gate : (t : ℕ) → ((call.ticket == t) || is_queued queues (key_of call.gate) t) ≡ (stands_at (key_of call.gate) (get (insert calls call.ticket call) t) && not (contains ended t))
      at_gate t =
          elim (cases_eq t call.ticket) [
            | inl same ↦ rw (same, equal_itself call.ticket, get-insert_same calls call.ticket call, equal_itself (key_of call.gate), not_ended call.ticket none)
            | inr other ↦ rw (differ call.ticket t (λ e. other (sym e)), get-insert_other calls call.ticket t call other) (kept.queued (key_of call.gate) t)
          ]

      elsewhere : (k t : ℕ) → k ≢ key_of call.gate → (stands_at k (get calls t) && not (contains ended t)) ≡ (stands_at k (get (insert calls call.ticket call) t) && not (contains ended t))
      elsewhere k t there =
          elim (cases_eq t call.ticket) [
            | inl same ↦ rw (same, none, get-insert_same calls call.ticket call, differ (key_of call.gate) k (λ e. there (sym e)))
            | inr other ↦ rw (get-insert_other calls call.ticket t call other)
          ]

  -- the tickets of an ended gate's queue move to those whose gate was ended
  moved_here : (s e : Bool) → false ≡ (s && not (e || (s && not e)))
  moved_here true true = refl
  moved_here true false = refl
  moved_here false e = refl

  stays_there : (s o e : Bool) → (s ≡ true → o ≡ true → ⊥) → (o && not e) ≡ (o && not (e || (s && not e)))
  stays_there true true e d = absurd (d refl refl)
  stays_there true false e d = refl
  stays_there false o true d = refl
  stays_there false o false d = refl

  ended_or : (s e : Bool) → (e || (s && not e)) ≡ (e || s)
  ended_or s true = refl
  ended_or true false = refl
  ended_or false false = refl

  one_of : {Z : Type 0} (a b : Bool) → (a || b) ≡ true → (a ≡ true → Z) → (b ≡ true → Z) → Z
  one_of true b h left right = left refl
  one_of false b h left right = right h

  pub queued-ended : (k : ℕ) (new : FinSet nat_cmp) → ((t : ℕ) → contains new t ≡ (contains ended t || is_queued queues k t)) → AreQueued calls (remove queues k) new
  queued-ended k new moved = record {
    ticketed = kept.ticketed;
    waited = λ t h.
        one_of
        (contains ended t)
        (is_queued queues k t)
        (sym (moved t) ∙ h)
        (λ before. kept.waited t before)
        (λ queued. stands-some k (get calls t) (and_true (stands_at k (get calls t)) (not (contains ended t)) (sym (kept.queued k t) ∙ queued)));
    queued = λ q t.
        elim (cases_eq q k) [
          | inl same ↦ rw (same, queue-remove_same queues k, contains-empty nat_cmp t, moved t, kept.queued k t) (moved_here (stands_at k (get calls t)) (contains ended t))
          | inr other ↦ rw (queue-remove_other queues k q other, moved t, kept.queued k t) (kept.queued q t ∙ stays_there (stands_at k (get calls t)) (stands_at q (get calls t)) (contains ended t) (λ a b. one_place k q (get calls t) (λ e. other (sym e)) a b))
        ];
  }

  pub ends-moved : (gate : Gate) (new : FinSet nat_cmp) → ((t : ℕ) → contains new t ≡ (contains ended t || is_queued queues (key_of gate) t)) → Ends (record { calls = calls; ended = ended }) gate (record { calls = calls; ended = new })
  ends-moved gate new moved = record {
    calls = refl;
    ended = λ t. rw (moved t, kept.queued (key_of gate) t, ended_or (stands_at (key_of gate) (get calls t)) (contains ended t), stands-waits gate (get calls t));
  }

  -- the others stay as they are once a call whose gate was ended has left
  pub queued-left : (ticket : ℕ) → contains ended ticket ≡ true → AreQueued (remove calls ticket) queues (set.remove ended ticket)
  queued-left ticket over = record {
    ticketed = λ t.
        elim (cases_eq t ticket) [
          | inl same ↦ rw (same, get-remove_same calls ticket) tt
          | inr other ↦ rw (get-remove_other calls ticket t other) (kept.ticketed t)
        ];
    waited = λ t h.
        elim (cases_eq t ticket) [
          | inl same ↦ absurd (true≢false (sym h ∙ rw (same, contains-remove_nat ended ticket ticket, equal_itself ticket)))
          | inr other ↦ rw (get-remove_other calls ticket t other) (kept.waited t (rw (contains-remove_nat ended ticket t, differ ticket t (λ e. other (sym e))) at h))
        ];
    queued = λ k t.
        elim (cases_eq t ticket) [
          | inl same ↦ rw (same, get-remove_same calls ticket) (ended_not_queued k ticket over)
          | inr other ↦ rw (get-remove_other calls ticket t other, contains-remove_nat ended ticket t, differ ticket t (λ e. other (sym e))) (kept.queued k t)
        ];
  }
