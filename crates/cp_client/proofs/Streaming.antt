-- How the questions of a stream end, one after another.
use Rattle.std.proofs.Common.{◌≡◌, ℕ, List, [], ◌∷◌, ◌++◌, Option, Some, None, Result, Ok, Err, IfErr, refl, sym, ap, ◌∙◌, subst, append_assoc, drop, length, ◌<◌, is_none, true≢false, arith}
use Rattle.cp_objects.specs.ObjectTable.{ObjectTableKind}
use Rattle.cp_client.specs.Conversation.{Conversation}
use Rattle.cp_client.specs.declared.fault.CallError.{CallError}
use Rattle.cp_client.specs.CallWindows.{Flow, Ends, EndsEach, IsFull, IsUnended, MakesRoom, due, oldest}

abbrev or_else : ℕ → Option ℕ → ℕ
or_else d None = d
or_else d (Some n) = n

-- the oldest question and those after it are all
pub oldest_first : (asked : List ℕ) (q : ℕ) → oldest asked ≡ Some q → asked ≡ q ∷ drop 1 asked
oldest_first [] q is = absurd (true≢false (ap is_none is))
oldest_first (x ∷ xs) q is = ap (λ (y : ℕ). y ∷ xs) (ap (or_else x) is)

-- where there is no oldest question there is none
pub none_oldest : (asked : List ℕ) → oldest asked ≡ None → asked ≡ []
none_oldest [] is = refl
none_oldest (x ∷ xs) is = absurd (true≢false (sym (ap is_none is)))

-- without the oldest question there are fewer
pub fewer : (asked left : List ℕ) (q : ℕ) → oldest asked ≡ Some q → left ≡ drop 1 asked → length left < length asked
fewer [] left q is rest = absurd (true≢false (ap is_none is))
fewer (x ∷ xs) left q is rest = omega (arith, ap length rest)

-- those that are left without the oldest question, of a stream as it is seen
pub popped : {f g : Flow} {left : List ℕ} → g ≡ f → left ≡ drop 1 g.under_way → left ≡ drop 1 f.under_way
popped {f} {g} {left} view rest = subst (λ (h : Flow). left ≡ drop 1 h.under_way) view rest

-- there is room for one more call of a stream as it is seen
pub room_seen : {H : Type 0} {f g : Flow} (table : ObjectTableKind H) (asked : List ℕ) (old new : Conversation H) (first : Option ℕ) → g ≡ f
    → MakesRoom table asked old first f.under_way new → MakesRoom table asked old first g.under_way new
room_seen {f = f} {g = g} table asked old new first view room = subst (λ (h : Flow). MakesRoom table asked old first h.under_way new) (sym view) room

-- there is no room where the question doesn't end that has to
pub is_full : {H : Type 0} (table : ObjectTableKind H) (flow : Flow) (old : Conversation H) (q : ℕ) (result : Result (Unit {0}) CallError) (left : List ℕ) (new : Conversation H)
    → due flow ≡ Some q → IfErr result (λ fault. IsUnended table flow.under_way old q fault left new) → IfErr result (λ fault. IsFull table flow old fault left new)
is_full table flow old q (Ok x) left new is h = h
is_full table flow old q (Err fault) left new is h = (q, is, h)

-- a question was noted last
pub noted_last : (flow mid : Flow) (window : ℕ) (left new : List ℕ) (p q : ℕ) → ◌≡◌ {A = Flow} (record { window = window; under_way = left }) mid
    → mid.window ≡ flow.window → new ≡ left ++ p ∷ [] → p ≡ q
    → ◌≡◌ {A = Flow} (record { window = window; under_way = new }) (record { window = flow.window; under_way = left ++ q ∷ [] })
noted_last flow mid window left new p q view same added is =
    ap (λ (w : ℕ). record { window = w; under_way = new }) (ap (λ (f : Flow). f.window) view ∙ same)
    ∙ ap (λ (u : List ℕ). record { window = flow.window; under_way = u }) (added ∙ ap (λ (n : ℕ). left ++ n ∷ []) is)

-- the oldest question is the last of those that ended
pub moved : (all ended asked left : List ℕ) (q : ℕ) → all ≡ ended ++ asked → oldest asked ≡ Some q → left ≡ drop 1 asked → all ≡ (ended ++ q ∷ []) ++ left
moved all ended asked left q is first rest =
    is
    ∙ ap (λ (z : List ℕ). ended ++ z) (oldest_first asked q first ∙ ap (λ (z : List ℕ). q ∷ z) (sym rest))
    ∙ sym (append_assoc ended (q ∷ []) left)

-- questions ended, and then one more
pub ends_last : {H : Type 0} {table : ObjectTableKind H} (a : Conversation H) (ended : List ℕ) (b : Conversation H) (q : ℕ) (c : Conversation H) → EndsEach table a ended b
    → Ends table b q c → EndsEach table a (ended ++ q ∷ []) c
ends_last {table = table} a [] b q c each last = (c, subst (λ s. Ends table s q c) each last, refl)
ends_last a (x ∷ xs) b q c each last = (each.0, each.1, ends_last each.0 xs b q c each.2 last)
