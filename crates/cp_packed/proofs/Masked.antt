-- Words of which many are zero, by a mask of those that aren't.
use Rattle.std.proofs.Common.{◌≡◌, inr, Bool, true, false, cond, not, eqb, ℕ, zero, suc, ◌+◌, ◌-◌, ◌*◌, ◌/◌, ◌^◌, ◌<◌, ◌≤◌, List, [], ◌∷◌, ◌++◌, length, map, take, drop, get_or, replicate, refl, sym, ◌∙◌, ap, subst, arith, w64}
use Rattle.std.specs.List.{prefix_len}
use Rattle.std.specs.Int.{to_le_bytes}
use Rattle.std.proofs.lemmas.Bool.Decides.{nat_tests}
use lib.Lanes.{mask_l}
use lib.Count.{count_trailing_zeros}
use Rattle.std.proofs.Math.Nat.{zero-div, div-one, pow-suc, mul_comm, div-div-eq-div-mul}
use Rattle.std.proofs.Math.Seq.{take-take}
use Rattle.std.proofs.lemmas.Simd.{trailing_mask_l}
use Rattle.std.proofs.lemmas.List.{length-take-le, length-drop}
use Rattle.std.proofs.lemmas.List.Sums.{prefix_len_passes, prefix_len-le-length}
use Rattle.cp_packed.specs.Packed.{zeros, StartsWithout, tag}
use Rattle.cp_packed.specs.Packing.{PutsFront, bytes_that_count}
use Rattle.cp_packed.proofs.Sparing.{front_none, front_more}

halved : (b : Bool) (n : ℕ) → (cond b 1 0 + 2 * n) / 2 ≡ n
halved true n = omega arith
halved false n = omega arith

mask_after : (i : ℕ) (ms : List Bool) → mask_l ms / 2 ^ i ≡ mask_l (drop i ms)
mask_after zero ms = div-one (mask_l ms)
mask_after (suc i) [] = zero-div (2 ^ suc i)
mask_after (suc i) (m ∷ ms) =
    ap (λ (n : ℕ). mask_l (m ∷ ms) / n) (pow-suc 2 i ∙ mul_comm (2 ^ i) 2) ∙ sym (div-div-eq-div-mul (mask_l (m ∷ ms)) 2 (2 ^ i)) ∙ ap (λ (n : ℕ). n / 2 ^ i) (halved m (mask_l ms))
    ∙ mask_after i ms

drop-map : {X Y : Type 0} (f : X → Y) (i : ℕ) (xs : List X) → drop i (map f xs) ≡ map f (drop i xs)
drop-map f zero xs = refl
drop-map f (suc i) [] = refl
drop-map f (suc i) (x ∷ xs) = drop-map f i xs

some : ℕ → Bool
some w = not (eqb w 0)

zero_by : (w : ℕ) → not (some w) ≡ true → w ≡ 0
unfolding some
zero_by w h = grind (arith, nat_tests)

all_zeros : (n : ℕ) (ws : List ℕ) → n ≤ length ws → ((k : ℕ) → k < n → get_or ws k 0 ≡ 0) → take n ws ≡ replicate n 0
all_zeros zero ws h k = refl
all_zeros (suc n) [] h k = absurd (omega (arith, h))
all_zeros (suc n) (w ∷ ws) h k = ap (λ (v : ℕ). v ∷ take n ws) (k 0 (omega arith)) ∙ ap (λ (vs : List ℕ). 0 ∷ vs) (all_zeros n ws (omega (arith, h)) (λ i l. k (suc i) (omega (arith, l))))

-- the same words, whether those after the 64th are left out or not
taken_later : (place count : ℕ) (words : List ℕ) → place + count ≤ 64 → take count (drop place (take 64 words)) ≡ take count (drop place words)
taken_later place count words h =
    let whole : 64 ≡ place + (64 - place) = omega (arith, h) in
    ap (λ (n : ℕ). take count (drop place (take n words))) whole ∙ ap (λ (ws : List ℕ). take count ws) (dropped place (64 - place) words) ∙ take-take count (64 - place) (drop place words) (omega (arith, h))
  where
    dropped : (i n : ℕ) (ws : List ℕ) → drop i (take (i + n) ws) ≡ take n (drop i ws)
    dropped zero n ws = let e : 0 + n ≡ n = omega arith in ap (λ (m : ℕ). take m ws) e
    dropped (suc i) n [] = let e : suc i + n ≡ suc (i + n) = omega arith in ap (λ (m : ℕ). drop (suc i) (take m [])) e ∙ sym (nothing n)
      where
        nothing : (n : ℕ) → take {A = ℕ} n [] ≡ []
        nothing zero = refl
        nothing (suc n) = refl
    dropped (suc i) n (w ∷ ws) = let e : suc i + n ≡ suc (i + n) = omega arith in ap (λ (m : ℕ). drop (suc i) (take m (w ∷ ws))) e ∙ dropped i n ws

-- the mask of the first words says how many are zero from a place on
pub zeros_from : (words : List ℕ) (mask place count : ℕ) → 64 < length words → place < 64 → mask ≡ mask_l (map (λ w. not (eqb w 0)) (take 64 words)) → 0 < mask / 2 ^ place → count ≡ count_trailing_zeros 64 (mask / 2 ^ place)
    → (place + count ≤ 64) × (take count (drop place words) ≡ replicate count 0)
unfolding some
zeros_from words mask place count many within is more counted =
    let seen : List ℕ = drop place (take 64 words) in
    let rest : mask / 2 ^ place ≡ mask_l (map some seen) = ap (λ (n : ℕ). n / 2 ^ place) is ∙ mask_after place (map some (take 64 words)) ∙ ap (λ (ms : List Bool). mask_l ms) (drop-map some place (take 64 words)) in
    let long : length seen ≡ 64 - place = length-drop place (take 64 words) ∙ ap (λ (n : ℕ). n - place) (length-take-le 64 words (omega (arith, many))) in
    let is_count : count ≡ prefix_len (λ w. not (some w)) seen =
    counted ∙ ap (λ (n : ℕ). count_trailing_zeros 64 n) rest ∙ trailing_mask_l some 64 seen (omega (arith, long)) (subst (λ (n : ℕ). 0 < n) rest more) in
    let fits : count ≤ length seen = subst (λ (n : ℕ). n ≤ length seen) (sym is_count) (prefix_len-le-length (λ w. not (some w)) seen) in
    let here : take count seen ≡ replicate count 0 =
    all_zeros count seen fits (λ k l. zero_by (get_or seen k 0) (prefix_len_passes (λ w. not (some w)) seen k 0 (subst (λ (n : ℕ). k < n) is_count l))) in
    (omega (arith, fits, long, within), sym (taken_later place count words (omega (arith, fits, long, within))) ∙ here)

-- a run of zero words before another word
pub run_front : (new back : List ℕ) (count : ℕ) → 0 < count → count ≤ 64 → StartsWithout (λ w. w ≡ 0) back → new ≡ 0 ∷ (count - 1) ∷ [] → PutsFront [] new (replicate count 0 ++ back) back
run_front new back count some few stops text =
    let next : count ≡ suc (count - 1) = omega (arith, some) in
    front_more [] [] new (replicate count 0 ++ back) (replicate count 0 ++ back) back (front_none [] (replicate count 0 ++ back)) (record {
      group = zeros (count - 1);
      is = omega (arith, few);
      sparing = tt;
      longest = inr stops;
      spells = text;
      gives = ap (λ (n : ℕ). replicate n 0 ++ back) next;
    })

-- a word with a byte that counts isn't zero
pub not_zero : (w : ℕ) → 0 < tag (bytes_that_count (to_le_bytes w64 w)) → w ≡ 0 → ⊥
not_zero w h e = absurd (omega (arith, subst (λ (v : ℕ). 0 < tag (bytes_that_count (to_le_bytes w64 v))) e h))
