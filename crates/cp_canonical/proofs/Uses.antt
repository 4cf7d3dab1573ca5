-- What a struct uses.
use Rattle.std.proofs.Common.{◌≡◌, ℕ, zero, suc, ◌≤◌, ◌==◌, Bool, true, false, List, [], ◌∷◌, length, take, get_or, refl, ap, arith}
use Rattle.std.proofs.lemmas.Bool.Decides.{nat_tests}
use Rattle.cp_tree.specs.Node.{Nodes, no_nodes, node, count}
use Rattle.cp_tree.specs.Seen.{node_at}
use Rattle.cp_canonical.specs.Cut.{up_to, is_null, used_words, used_ptrs, take_ptrs}

pub up_to-within : (b : Bool) (n m : ℕ) → n ≤ m → up_to b n ≤ suc m
up_to-within b (suc n) m h = omega (arith, h)
up_to-within true zero m h = omega arith
up_to-within false zero m h = omega arith

after-within : (b : Bool) (n m : ℕ) → up_to b n ≤ suc m → n ≤ m
after-within b (suc n) m h = omega (arith, h)
after-within true zero m h = omega arith
after-within false zero m h = omega arith

none-after : (b : Bool) (n : ℕ) → up_to b n ≤ 1 → b ≡ true → up_to b n ≤ 0
none-after b (suc n) h e = absurd (omega (arith, h))
none-after true zero h e = omega arith
none-after false zero h e = cc

one-itself : (b : Bool) (n : ℕ) → up_to b n ≤ 1 → b ≡ false → up_to b n ≡ 1
one-itself b (suc n) h e = absurd (omega (arith, h))
one-itself true zero h e = cc
one-itself false zero h e = refl

more-after : (b : Bool) (n i : ℕ) → n ≡ suc i → up_to b n ≡ suc (suc i)
more-after b zero i e = absurd (omega (arith, e))
more-after b (suc n) i e = ap suc e

pub used-within : (ws : List ℕ) → used_words ws ≤ length ws
used-within [] = omega arith
used-within (w ∷ ws) = up_to-within (w == 0) (used_words ws) (length ws) (used-within ws)

-- a word that is zero isn't the last that is used
pub used-skips : (ws : List ℕ) (i : ℕ) → used_words ws ≤ suc i → get_or ws i 0 ≡ 0 → used_words ws ≤ i
used-skips [] i h e = omega arith
used-skips (w ∷ ws) zero h e = let z : (w == 0) ≡ true = grind (arith, nat_tests, e) in none-after (w == 0) (used_words ws) h z
used-skips (w ∷ ws) (suc i) h e = up_to-within (w == 0) (used_words ws) i (used-skips ws i (after-within (w == 0) (used_words ws) (suc i) h) e)

-- the last word that isn't zero is the last that is used
pub used-stops : (ws : List ℕ) (i : ℕ) → used_words ws ≤ suc i → (get_or ws i 0 ≡ 0 → ⊥) → used_words ws ≡ suc i
used-stops [] i h e = absurd (e refl)
used-stops (w ∷ ws) zero h e = let z : (w == 0) ≡ false = grind (arith, nat_tests, e) in one-itself (w == 0) (used_words ws) h z
used-stops (w ∷ ws) (suc i) h e = more-after (w == 0) (used_words ws) i (used-stops ws i (after-within (w == 0) (used_words ws) (suc i) h) e)

pub used_ptrs-within : (ts : Nodes) → used_ptrs ts ≤ count ts
used_ptrs-within no_nodes = omega arith
used_ptrs-within (node t ts) = up_to-within (is_null t) (used_ptrs ts) (count ts) (used_ptrs-within ts)

pub used_ptrs-skips : (ts : Nodes) (i : ℕ) → used_ptrs ts ≤ suc i → is_null (node_at ts i) ≡ true → used_ptrs ts ≤ i
used_ptrs-skips no_nodes i h e = omega arith
used_ptrs-skips (node t ts) zero h e = none-after (is_null t) (used_ptrs ts) h e
used_ptrs-skips (node t ts) (suc i) h e = up_to-within (is_null t) (used_ptrs ts) i (used_ptrs-skips ts i (after-within (is_null t) (used_ptrs ts) (suc i) h) e)

pub used_ptrs-stops : (ts : Nodes) (i : ℕ) → used_ptrs ts ≤ suc i → is_null (node_at ts i) ≡ false → used_ptrs ts ≡ suc i
used_ptrs-stops no_nodes i h e = cc
used_ptrs-stops (node t ts) zero h e = one-itself (is_null t) (used_ptrs ts) h e
used_ptrs-stops (node t ts) (suc i) h e = more-after (is_null t) (used_ptrs ts) i (used_ptrs-stops ts i (after-within (is_null t) (used_ptrs ts) (suc i) h) e)

-- what is left of words has no fewer that are used
pub used-take : (ws : List ℕ) (d : ℕ) → used_words ws ≤ d → used_words (take d ws) ≡ used_words ws
used-take [] zero h = refl
used-take [] (suc d) h = refl
used-take (w ∷ ws) zero h = omega (arith, h)
used-take (w ∷ ws) (suc d) h = ap (up_to (w == 0)) (used-take ws d (after-within (w == 0) (used_words ws) d h))

pub used-take_ptrs : (ts : Nodes) (n : ℕ) → used_ptrs ts ≤ n → used_ptrs (take_ptrs n ts) ≡ used_ptrs ts
used-take_ptrs no_nodes zero h = refl
used-take_ptrs no_nodes (suc n) h = refl
used-take_ptrs (node t ts) zero h = omega (arith, h)
used-take_ptrs (node t ts) (suc n) h = ap (up_to (is_null t)) (used-take_ptrs ts n (after-within (is_null t) (used_ptrs ts) n h))
