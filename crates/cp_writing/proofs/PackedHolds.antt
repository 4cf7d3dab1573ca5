-- Packed words hold the elements that they were packed from.
use Rattle.std.proofs.Common.{◌≡◌, ℕ, zero, suc, ◌+◌, ◌-◌, ◌*◌, ◌/◌, ◌%◌, ◌^◌, ◌<◌, ◌≤◌, Bool, true, false, List, [], ◌∷◌, length, map, drop, take, get_or, sym, refl, ap, ◌∙◌, ⊎_elim, arith}
use Rattle.std.proofs.Math.Nat.{add-mul, mul_assoc, mul_comm, mul-zero, mul-suc, mul-le-mul_right, mul-le-mul_left, pow-zero, pow-suc, pow-le-pow_right, div-one, zero-div, zero-mod, div-eq_of_lt, div-div-eq-div-mul, lt-mul-div-succ, div-add-mod'}
use Rattle.std.proofs.lemmas.Nat.{pow-add, div-mul-add, mod-mul-add, mod_below}
use Rattle.std.proofs.lemmas.Bool.{cases_lt}
use Rattle.std.proofs.lemmas.List.{get_or-drop, get_or-take, get_or-map, get_or_past, get_or_default, length-take, length-drop, drop_all, take_all}
use Rattle.std.proofs.lemmas.List.FromFn.{fill_by_all, get_or-map-range_with_len}
use Rattle.std.specs.Prelude.{All, slice_index, ◌==◌}
use Rattle.cp_words.specs.Word.{words_for}
use Rattle.cp_tree.specs.Elements.{element, numbers, flags}
use Rattle.cp_writing.specs.Layout.{HoldElements}
use Rattle.cp_tree.specs.Node.{Elements, voids, bits, bytes, halves, quads, words, element_size, element_count}
use Rattle.cp_writing.specs.Packed.{value, groups, bit_of, packed}
use Rattle.cp_tree.specs.Shaped.{ElementsFit}
use Rattle.cp_tree.proofs.Numbers.{place}
use Rattle.cp_writing.proofs.Packing.{value_below, bit_below, length_groups, length_bits}

-- each digit is below the base
abbrev pub Digits : ℕ → List ℕ → Type 0
Digits base ns = (k : ℕ) → get_or ns k 0 < base

pub digits_fit : (base : ℕ) (ns : List ℕ) → 0 < base → All (λ n. n < base) ns → Digits base ns
digits_fit base ns some fit k = ⊎_elim (λ lt. fit k 0 lt) (λ le. rw (get_or_past ns k 0 le) some) (cases_lt k (length ns))

digits_drop : (base i : ℕ) (ns : List ℕ) → Digits base ns → Digits base (drop i ns)
digits_drop base i ns all k = rw (get_or-drop i ns k 0) (all (i + k))

digits_take : (base n : ℕ) (ns : List ℕ) → 0 < base → Digits base ns → Digits base (take n ns)
digits_take base n ns some all k = ⊎_elim (λ lt. rw (get_or-take n ns k 0 lt) (all k)) (λ le. rw (get_or_past (take n ns) k 0 (omega (arith, length-take n ns, le))) some) (cases_lt k n)

pow-mul : (a m n : ℕ) → a ^ (m * n) ≡ (a ^ m) ^ n
pow-mul a m zero = rw (mul-zero m, pow-zero a, pow-zero (a ^ m)) refl
pow-mul a m (suc n) = rw (mul-suc m n, pow-add a (m * n) m, pow-suc (a ^ m) n, pow-mul a m n) refl

-- a digit of the number that digits are
pub digit : (base : ℕ) (ns : List ℕ) (j : ℕ) → 0 < base → Digits base ns → value base ns / base ^ j % base ≡ get_or ns j 0
digit base [] j some all = rw (zero-div (base ^ j)) (zero-mod base)
digit base (n ∷ ns) zero some all =
    let turned : n + base * value base ns ≡ value base ns * base + n = omega (arith, mul_comm base (value base ns)) in
    rw (pow-zero base, div-one (n + base * value base ns), turned) (mod-mul-add (value base ns) base n (all 0))
digit base (n ∷ ns) (suc j) some all =
    let turned : n + base * value base ns ≡ value base ns * base + n = omega (arith, mul_comm base (value base ns)) in
    let rest : (n + base * value base ns) / base ≡ value base ns = rw turned (div-mul-add (value base ns) base n (all 0)) in
    let power : base ^ suc j ≡ base * base ^ j = pow-suc base j ∙ mul_comm (base ^ j) base in
    rw (power, sym (div-div-eq-div-mul (n + base * value base ns) base (base ^ j)), rest) (digit base ns j some (λ k. all (suc k)))

-- the words are the groups of the digits, and there are no digits after the last
abbrev pub AreGroups : ℕ → ℕ → List ℕ → List ℕ → Type 0
AreGroups base per ns ws = (g : ℕ) → slice_index ws g ≡ value base (take per (drop (per * g) ns))

pub groups_are : (base per : ℕ) (ns : List ℕ) → 0 < per → AreGroups base per ns (groups base per ns)
groups_are base per ns some g =
    let n = (length ns + (per - 1)) / per in
    ⊎_elim
    (λ lt. get_or-map-range_with_len (λ k. value base (take per (drop (per * k) ns))) 0 n g g 0 lt (omega arith))
    (λ le.
    let covered : length ns + (per - 1) < per * (n + 1) = lt-mul-div-succ (length ns + (per - 1)) some in
    let more : per * n ≤ per * g = mul-le-mul_left per le in
    let split : per * (n + 1) ≡ per * n + per = omega (arith, mul-suc per n) in
    let none : drop (per * g) ns ≡ [] = drop_all (per * g) ns (omega (arith, covered, more, split)) in
    let empty : take per (drop (per * g) ns) ≡ [] = ap (take per) none ∙ take_all per [] (omega arith) in
    get_or_past (groups base per ns) g 0 (omega (arith, length_groups base per ns, le)) ∙ sym (ap (value base) empty))
    (cases_lt g n)

module _ (w per : ℕ) (ns ws : List ℕ) (whole : per * w ≡ 64) (some : 0 < per) (all : Digits (2 ^ w) ns) (are : AreGroups (2 ^ w) per ns ws) where
  based : 0 < 2 ^ w
  based = omega (arith, all 0)

  -- element k of w bits is digit k
  pub element_is : (k : ℕ) → element ws w k ≡ get_or ns k 0
  element_is k =
      let at = place w per k whole some in
      let power : 2 ^ (k % per * w) ≡ (2 ^ w) ^ (k % per) = ap (λ n. 2 ^ n) (mul_comm (k % per) w) ∙ pow-mul 2 w (k % per) in
      let below = mod_below k per some in
      let from = drop (per * (k / per)) ns in
      let is : per * (k / per) + k % per ≡ k = omega (arith, mul_comm per (k / per), div-add-mod' k per) in
      rw (at.0, at.1, power, are (k / per))
      (digit (2 ^ w) (take per from) (k % per) based (digits_take (2 ^ w) per from based (digits_drop (2 ^ w) (per * (k / per)) ns all))
      ∙ get_or-take per from (k % per) 0 below ∙ get_or-drop (per * (k / per)) ns (k % per) 0 ∙ ap (λ n. get_or ns n 0) is)

  pub numbers_are : ns ≡ numbers ws w (length ns)
  numbers_are = fill_by_all (element ws w) ns (length ns) 0 refl (λ k lt. sym (element_is k))

  -- the bits after the last digit are zero
  pub padded : (k : ℕ) → length ns * w ≤ k → element ws 1 k ≡ 0
  padded k after =
      let from = drop (per * (k / 64)) ns in
      let ds = take per from in
      let n = length ds in
      let split : k / 64 * 64 + k % 64 ≡ k = div-add-mod' k 64 in
      let before : per * (k / 64) * w ≡ k / 64 * 64 = ap (λ m. m * w) (mul_comm per (k / 64)) ∙ mul_assoc (k / 64) per w ∙ ap (λ m. k / 64 * m) whole in
      let short : n ≤ length ns - per * (k / 64) = omega (arith, length-take per from, length-drop (per * (k / 64)) ns) in
      let fits : w * n ≤ k % 64 = ⊎_elim
      (λ lt.
      let within : per * (k / 64) + n ≤ length ns = omega (arith, short, lt) in
      let scaled : (per * (k / 64) + n) * w ≤ length ns * w = mul-le-mul_right w within in
      omega (arith, scaled, add-mul (per * (k / 64)) n w, before, split, after, mul_comm w n))
      (λ le.
      let none : w * n ≡ 0 = ap (λ m. w * m) (omega (arith, le)) ∙ mul-zero w in
      omega (arith, none))
      (cases_lt 0 n) in
      let small : value (2 ^ w) ds < (2 ^ w) ^ n = value_below (2 ^ w) ds n based (digits_take (2 ^ w) per from based (digits_drop (2 ^ w) (per * (k / 64)) ns all)) (omega arith) in
      let under : 2 ^ (w * n) ≤ 2 ^ (k % 64) = pow-le-pow_right (omega arith) fits in
      let gone : value (2 ^ w) ds / 2 ^ (k % 64) ≡ 0 = div-eq_of_lt (omega (arith, small, under, pow-mul 2 w n)) in
      let one : k * 1 ≡ k = omega arith in
      rw (one, are (k / 64), gone) refl

  pub fitting : All (λ n. n < 2 ^ 64) ws
  fitting k d lt =
      let from = drop (per * k) ns in
      let small = value_below (2 ^ w) (take per from) per based (digits_take (2 ^ w) per from based (digits_drop (2 ^ w) (per * k) ns all)) (omega (arith, length-take per from)) in
      let power : (2 ^ w) ^ per ≡ 2 ^ 64 = sym (pow-mul 2 w per) ∙ ap (λ n. 2 ^ n) (mul_comm w per ∙ whole) in
      rw (get_or_default ws k d 0 lt, are k, sym power) small

bit_again : (b : Bool) → b ≡ (bit_of b == 1)
bit_again true = refl
bit_again false = refl

pub flags_are : (bs : List Bool) (ws : List ℕ) → AreGroups 2 64 (map bit_of bs) ws → bs ≡ flags ws (length bs)
flags_are bs ws are = fill_by_all (λ k. element ws 1 k == 1) bs (length bs) false refl
    (λ k lt.
    let is : element ws 1 k ≡ bit_of (get_or bs k false) = element_is 1 64 (map bit_of bs) ws refl (omega arith) (bit_below bs) are k ∙ get_or-map bit_of bs k false 0 lt in
    rw is (bit_again (get_or bs k false)))

-- whole words are groups of one digit each
single : (base : ℕ) (ns : List ℕ) (g : ℕ) → get_or ns g 0 ≡ value base (take 1 (drop g ns))
single base [] zero = refl
single base [] (suc g) = refl
single base (n ∷ ns) zero = omega (arith, mul-zero base)
single base (n ∷ ns) (suc g) = single base ns g

pub singles_are : (base : ℕ) (ns : List ℕ) → AreGroups base 1 ns ns
singles_are base ns g = let one : 1 * g ≡ g = omega arith in rw one (single base ns g)

pub packed_holds : (es : Elements) → ElementsFit es → HoldElements (packed es) es
packed_holds (voids n) fit = record { elements = refl; padding = λ k after. rw (zero-div (2 ^ (k * 1 % 64))) refl }
packed_holds (bits bs) fit =
    let are = groups_are 2 64 (map bit_of bs) (omega arith) in
    record {
      elements = ap bits (flags_are bs (groups 2 64 (map bit_of bs)) are);
      padding = λ k after. padded 1 64 (map bit_of bs) (groups 2 64 (map bit_of bs)) refl (omega arith) (bit_below bs) are k (omega (arith, length_bits bs, after));
    }
packed_holds (bytes ns) fit =
    let are = groups_are 256 8 ns (omega arith) in
    let all = digits_fit 256 ns (omega arith) fit.1 in
    record { elements = ap bytes (numbers_are 8 8 ns (groups 256 8 ns) refl (omega arith) all are); padding = padded 8 8 ns (groups 256 8 ns) refl (omega arith) all are }
packed_holds (halves ns) fit =
    let are = groups_are 65536 4 ns (omega arith) in
    let all = digits_fit 65536 ns (omega arith) fit.1 in
    record { elements = ap halves (numbers_are 16 4 ns (groups 65536 4 ns) refl (omega arith) all are); padding = padded 16 4 ns (groups 65536 4 ns) refl (omega arith) all are }
packed_holds (quads ns) fit =
    let are = groups_are 4294967296 2 ns (omega arith) in
    let all = digits_fit 4294967296 ns (omega arith) fit.1 in
    record { elements = ap quads (numbers_are 32 2 ns (groups 4294967296 2 ns) refl (omega arith) all are); padding = padded 32 2 ns (groups 4294967296 2 ns) refl (omega arith) all are }
packed_holds (words ns) fit =
    let are = singles_are (2 ^ 64) ns in
    let all = digits_fit (2 ^ 64) ns (omega arith) fit.1 in
    record { elements = ap words (numbers_are 64 1 ns ns refl (omega arith) all are); padding = padded 64 1 ns ns refl (omega arith) all are }

pub packed_length : (es : Elements) → length (packed es) ≡ words_for (element_size es) (element_count es)
packed_length (voids n) = omega arith
packed_length (bits bs) = omega (arith, length_groups 2 64 (map bit_of bs), length_bits bs)
packed_length (bytes ns) = omega (arith, length_groups 256 8 ns)
packed_length (halves ns) = omega (arith, length_groups 65536 4 ns)
packed_length (quads ns) = omega (arith, length_groups 4294967296 2 ns)
packed_length (words ns) = omega arith

pub packed_fits : (es : Elements) → ElementsFit es → All (λ n. n < 2 ^ 64) (packed es)
packed_fits (voids n) fit = λ k d lt. absurd (omega (arith, lt))
packed_fits (bits bs) fit = fitting 1 64 (map bit_of bs) (groups 2 64 (map bit_of bs)) refl (omega arith) (bit_below bs) (groups_are 2 64 (map bit_of bs) (omega arith))
packed_fits (bytes ns) fit = fitting 8 8 ns (groups 256 8 ns) refl (omega arith) (digits_fit 256 ns (omega arith) fit.1) (groups_are 256 8 ns (omega arith))
packed_fits (halves ns) fit = fitting 16 4 ns (groups 65536 4 ns) refl (omega arith) (digits_fit 65536 ns (omega arith) fit.1) (groups_are 65536 4 ns (omega arith))
packed_fits (quads ns) fit = fitting 32 2 ns (groups 4294967296 2 ns) refl (omega arith) (digits_fit 4294967296 ns (omega arith) fit.1) (groups_are 4294967296 2 ns (omega arith))
packed_fits (words ns) fit = fit.1
