-- Elements of a list without pointers, and the words that hold them.
use Rattle.std.proofs.Common.{◌≡◌, ℕ, zero, suc, ◌+◌, ◌-◌, ◌*◌, ◌/◌, ◌^◌, ◌<◌, ◌≤◌, ◌++◌, min, Bool, true, false, List, [], ◌∷◌, length, map, drop, take, get_or, refl, sym, ap, ◌∙◌, arith}
use Rattle.std.proofs.Math.Nat.{pow-succ', one-le-pow, mul-le-mul_left, mul-suc, mul_comm}
use Rattle.std.proofs.lemmas.List.{append_assoc, get_or-drop, length-drop, take_min, take_all, take-map, drop-drop, drop-map}
use Rattle.std.specs.List.{range_with_len}
use Rattle.std.specs.Simd.{first_chunks}
use Rattle.std.proofs.lemmas.List.{length-map}
use Rattle.std.proofs.lemmas.List.FromFn.{length-range_with_len, map-range_with_len_more}
use Rattle.cp_writing.specs.Packed.{value, groups, bit_of}

-- digits below a base are less than its power
pub value_below : (base : ℕ) (ns : List ℕ) (m : ℕ) → 0 < base → ((k : ℕ) → get_or ns k 0 < base) → length ns ≤ m → value base ns < base ^ m
value_below base [] m some all short = omega (arith, one-le-pow m base some)
value_below base (n ∷ ns) zero some all short = absurd (omega (arith, short))
value_below base (n ∷ ns) (suc m) some all short =
    let rest = value_below base ns m some (λ k. all (suc k)) (omega (arith, short)) in
    let next : suc (value base ns) ≤ base ^ m = omega (arith, rest) in
    let more : base * suc (value base ns) ≤ base * base ^ m = mul-le-mul_left base next in
    let first : n < base = all 0 in
    let split : base * suc (value base ns) ≡ base * value base ns + base = mul-suc base (value base ns) in
    let power : base ^ suc m ≡ base * base ^ m = pow-succ' base m in
    omega (arith, more, first, split, power)

pub value_below_drop : (base : ℕ) (ns : List ℕ) (i m : ℕ) → 0 < base → ((k : ℕ) → get_or ns k 0 < base) → length ns ≤ i + m → value base (drop i ns) < base ^ m
value_below_drop base ns i m some all short = value_below base (drop i ns) m some (λ k. rw (get_or-drop i ns k 0) (all (i + k))) (omega (arith, length-drop i ns, short))

pub bit_below : (bs : List Bool) (k : ℕ) → get_or (map bit_of bs) k 0 < 2
bit_below [] k = omega arith
bit_below (true ∷ bs) zero = omega arith
bit_below (false ∷ bs) zero = omega arith
bit_below (b ∷ bs) (suc k) = bit_below bs k

-- a group ends where the digits end
pub group_to_end : {X : Type 0} (xs : List X) (start per : ℕ) → take (min (length xs) (start + per) - start) (drop start xs) ≡ take per (drop start xs)
group_to_end xs start per =
    let e : min (length xs) (start + per) - start ≡ min per (length (drop start xs)) = omega (arith, length-drop start xs) in
    rw e (take_min per (drop start xs))

pub bits_group : (bs : List Bool) (start per : ℕ) → map bit_of (take per (drop start bs)) ≡ take per (drop start (map bit_of bs))
bits_group bs start per = sym (take-map bit_of per (drop start bs)) ∙ ap (take per) (sym (drop-map bit_of start bs))

-- as many words as groups
pub length_groups : (base per : ℕ) (ns : List ℕ) → length (groups base per ns) ≡ (length ns + (per - 1)) / per
length_groups base per ns = length-map (range_with_len 0 ((length ns + (per - 1)) / per)) (λ k. value base (take per (drop (per * k) ns))) ∙ length-range_with_len 0 ((length ns + (per - 1)) / per)

-- one more group is appended
pub one_more_group : (base per : ℕ) (ns old words next : List ℕ) (k word : ℕ) → words ≡ old ++ map (λ j. value base (take per (drop (per * j) ns))) (range_with_len 0 k) → word ≡ value base (take per (drop (per * k) ns)) → next ≡ words ++ word ∷ []
    → next ≡ old ++ map (λ j. value base (take per (drop (per * j) ns))) (range_with_len 0 (k + 1))
one_more_group base per ns old words next k word so_far is push =
    let f : ℕ → ℕ = λ j. value base (take per (drop (per * j) ns)) in
    let more = map-range_with_len_more f 0 k k (omega arith) in
    rw (push, so_far, is, more) (append_assoc old (map f (range_with_len 0 k)) (f k ∷ []))

pub length_bits : (bs : List Bool) → length (map bit_of bs) ≡ length bs
length_bits bs = length-map bs bit_of

-- whole groups, as chunks
chunks_from : (base per : ℕ) (ns : List ℕ) (a n : ℕ) → map (value base) (first_chunks per n (drop (per * a) ns)) ≡ map (λ k. value base (take per (drop (per * k) ns))) (range_with_len a n)
chunks_from base per ns a zero = refl
chunks_from base per ns a (suc n) =
    let after : suc a ≡ a + 1 = omega arith in
    let next : drop per (drop (per * a) ns) ≡ drop (per * (a + 1)) ns = drop-drop per (per * a) ns ∙ ap (λ m. drop m ns) (sym (mul-suc per a) ∙ ap (λ m. per * m) after) in
    ap (λ ws. value base (take per (drop (per * a) ns)) ∷ ws) (ap (λ xs. map (value base) (first_chunks per n xs)) next ∙ chunks_from base per ns (a + 1) n)

module _ (base per : ℕ) (ns old words : List ℕ) (n : ℕ) (whole : words ≡ old ++ map (value base) (first_chunks per n ns)) where
  so_far : words ≡ old ++ map (λ k. value base (take per (drop (per * k) ns))) (range_with_len 0 n)
  so_far =
      let none : 0 ≡ per * 0 = omega arith in
      whole ∙ ap (λ xs. old ++ xs) (ap (λ m. map (value base) (first_chunks per n (drop m ns))) none ∙ chunks_from base per ns 0 n)

  -- nothing is left after them, or one group that is less than whole
  pub all_whole : n ≡ (length ns + (per - 1)) / per → words ≡ old ++ groups base per ns
  all_whole many = so_far ∙ ap (λ m. old ++ map (λ k. value base (take per (drop (per * k) ns))) (range_with_len 0 m)) many

  pub one_rest : (rest next : List ℕ) (word : ℕ) → n + 1 ≡ (length ns + (per - 1)) / per → rest ≡ drop (n * per) ns → length rest ≤ per → word ≡ value base rest → next ≡ words ++ word ∷ [] → next ≡ old ++ groups base per ns
  one_rest rest next word many is short worth push =
      let there : rest ≡ drop (per * n) ns = is ∙ ap (λ m. drop m ns) (mul_comm n per) in
      let last : word ≡ value base (take per (drop (per * n) ns)) = worth ∙ ap (value base) (sym (take_all per rest short) ∙ ap (take per) there) in
      one_more_group base per ns old words next n word so_far last push ∙ ap (λ m. old ++ map (λ k. value base (take per (drop (per * k) ns))) (range_with_len 0 m)) many
