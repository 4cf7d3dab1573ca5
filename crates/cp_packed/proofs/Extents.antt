-- Runs of words that go on in a part of the words.
use Rattle.std.proofs.Common.{◌≡◌, ◌⊎◌, inl, inr, ℕ, zero, suc, ◌+◌, ◌-◌, ◌<◌, ◌≤◌, List, [], ◌∷◌, length, take, drop, sym, subst, arith}
use Rattle.std.specs.List.{AllByRecursion}
use Rattle.std.proofs.lemmas.Bool.{cases_eq}
use Rattle.std.proofs.lemmas.List.{length-take-le, length-drop}
use Rattle.std.proofs.Math.Seq.{take-add, take-take, drop-drop}
use Rattle.cp_packed.specs.Packed.{StartsWithout}
use Rattle.cp_packed.proofs.Bytes.{all-append}
use Rattle.cp_packed.proofs.Sparing.{stops_at_end}

pub run_on : (P : ℕ → Type 0) (words : List ℕ) (run most count : ℕ) → AllByRecursion P (take run words) → count ≤ most → AllByRecursion P (take count (take most (drop run words))) → AllByRecursion P (take (run + count) words)
run_on P words run most count h few k =
    let some = subst (λ (ws : List ℕ). AllByRecursion P ws) (take-take count most (drop run words) few) k in
    subst (λ (ws : List ℕ). AllByRecursion P ws) (sym (take-add run count words)) (all-append P (take run words) (take count (drop run words)) h some)

stops_in : (P : ℕ → Type 0) (count most : ℕ) (words : List ℕ) → count < most → count < length words → StartsWithout P (drop count (take most words)) → StartsWithout P (drop count words)
stops_in P count zero words m l h = absurd (omega (arith, m))
stops_in P zero (suc most) [] m l h = absurd (omega (arith, l))
stops_in P zero (suc most) (w ∷ words) m l h = h
stops_in P (suc count) (suc most) [] m l h = absurd (omega (arith, l))
stops_in P (suc count) (suc most) (w ∷ words) m l h = stops_in P count most words (omega (arith, m)) (omega (arith, l)) h

pub run_stops : (P : ℕ → Type 0) (words : List ℕ) (run most count : ℕ) → count < most → count < length (drop run words) → StartsWithout P (drop count (take most (drop run words))) → StartsWithout P (drop (run + count) words)
run_stops P words run most count m l h = subst (λ (ws : List ℕ). StartsWithout P ws) (drop-drop count run words) (stops_in P count most (drop run words) m l h)

-- where the words that were looked at end, all do, or the run has as many as it may
pub run_ends : (P : ℕ → Type 0) (words : List ℕ) (run most count : ℕ) → run ≤ most → most ≤ length words → ((most ≡ 255 → ⊥) → length words ≤ most) → count ≤ length (take (most - run) (drop run words))
    → StartsWithout P (drop count (take (most - run) (drop run words))) → (run + count ≡ 255) ⊎ StartsWithout P (drop (run + count) words)
run_ends P words run most count r m e few h = go (cases_eq most 255) (cases_eq count (most - run))
  where
    long : length (take (most - run) (drop run words)) ≡ most - run
    long = length-take-le (most - run) (drop run words) (omega (arith, length-drop run words, m))

    go : (most ≡ 255) ⊎ (most ≡ 255 → ⊥) → (count ≡ most - run) ⊎ (count ≡ most - run → ⊥) → (run + count ≡ 255) ⊎ StartsWithout P (drop (run + count) words)
    go (inl f) (inl k) = inl (omega (arith, f, k, r))
    go (inr f) (inl k) = inr (stops_at_end P words (run + count) (omega (arith, e f, k, r)))
    go f (inr k) = inr (run_stops P words run (most - run) count (omega (arith, k, few, long)) (omega (arith, k, few, long, length-drop run words, m)) h)
