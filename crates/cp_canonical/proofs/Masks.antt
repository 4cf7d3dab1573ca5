-- The words of a list hold its elements, and with the bits past these cleared, they are those that a writer makes.
use Rattle.std.proofs.Common.{◌≡◌, ⊎_elim, ℕ, zero, suc, ◌+◌, ◌-◌, ◌*◌, ◌/◌, ◌%◌, ◌^◌, ◌<◌, ◌≤◌, ◌++◌, false, List, length, map, set, get_or, refl, sym, ap, ◌∙◌, arith}
use Rattle.std.specs.Prelude.{slice_index, ◌==◌, if◌then◌else◌}
use Rattle.std.proofs.lemmas.Bool.Decides.{nat_tests}
use Rattle.std.specs.List.{range_with_len}
use Rattle.std.proofs.Math.Nat.{pow-le-pow_right, zero-div, div-eq_of_lt, mod-le}
use Rattle.std.proofs.lemmas.Bool.{cases_eq}
use Rattle.std.proofs.lemmas.Nat.{pow_pos, field_of, mod-pow-add, mod_low, mod_below, row_fits}
use Rattle.std.proofs.lemmas.List.{ext_get_or, get_or-set_same, get_or-set_other, get_or_past, length-set, length-map, set-append_right, length-append, get_or-append_right}
use Rattle.std.proofs.lemmas.List.FromFn.{length-range_with_len, get_or-map-range_with_len}
use Rattle.cp_words.specs.Word.{bits_of, words_for}
use Rattle.cp_words.specs.declared.pointer.ElementSize.{ElementSize}
use Rattle.cp_words.specs.declared.pointer.ElementSize.TheVariants as sizes
use Rattle.cp_tree.specs.Elements.{element, elements_of, numbers, flags}
use Rattle.cp_tree.specs.Node.{bits, bytes, halves, quads, words, element_size, element_count}
use Rattle.cp_tree.specs.Shaped.{AllFit, ElementsFit}
use Rattle.cp_reading.specs.Rows.{IsData}
use Rattle.cp_writing.specs.Layout.{HoldElements}
use Rattle.cp_writing.specs.Packed.{packed}
use Rattle.cp_writing.proofs.OneWord.{one_held}
use Rattle.cp_writing.proofs.PackedHolds.{packed_holds, packed_length, packed_fits}
use Rattle.cp_reading.proofs.Fitting.{word_at_fits}
use Rattle.cp_canonical.specs.Arenas.{masked}

-- a field within the lowest bits is the same without the others
low_bits : (x r w b : ℕ) → r + w ≤ b → x % 2 ^ b / 2 ^ r % 2 ^ w ≡ x / 2 ^ r % 2 ^ w
low_bits x r w b h =
    let j = b - r in
    let k = b - r - w in
    let whole : b ≡ j + r = omega (arith, h) in
    let part : j ≡ k + w = omega (arith, h) in
    let field : x % 2 ^ b / 2 ^ r ≡ x / 2 ^ r % 2 ^ j = ap (λ n. x % 2 ^ n / 2 ^ r) whole ∙ field_of x j r in
    let split : x / 2 ^ r % 2 ^ j ≡ (x / 2 ^ r / 2 ^ w % 2 ^ k) * 2 ^ w + x / 2 ^ r % 2 ^ w = ap (λ n. x / 2 ^ r % 2 ^ n) part ∙ mod-pow-add (x / 2 ^ r) k w in
    ap (λ n. n % 2 ^ w) (field ∙ split) ∙ mod_low (x / 2 ^ r / 2 ^ w % 2 ^ k) w (x / 2 ^ r % 2 ^ w) (mod_below (x / 2 ^ r) (2 ^ w) (pow_pos w))

no_bits : (x r b : ℕ) → b ≤ r → x % 2 ^ b / 2 ^ r % 2 ^ 1 ≡ 0
no_bits x r b h =
    let small : x % 2 ^ b < 2 ^ r = omega (arith, mod_below x (2 ^ b) (pow_pos b), pow-le-pow_right {n = 2} (omega arith) h) in
    ap (λ n. n % 2 ^ 1) (div-eq_of_lt small)

nothing : (r : ℕ) → 0 / 2 ^ r % 2 ^ 1 ≡ 0
nothing r = ap (λ n. n % 2 ^ 1) (zero-div (2 ^ r))

some_bits : (c : ℕ) → (suc c == 0) ≡ false
some_bits c = grind (arith, nat_tests)

masked_is : (c : ℕ) (ws : List ℕ) → masked (suc c) ws ≡ set ws (length ws - 1) (slice_index ws (length ws - 1) % 2 ^ suc c)
masked_is c ws = ap (λ t. if t then ws else set ws (length ws - 1) (slice_index ws (length ws - 1) % 2 ^ suc c)) (some_bits c)

pub length-masked : (b : ℕ) (ws : List ℕ) → length (masked b ws) ≡ length ws
length-masked zero ws = refl
length-masked (suc c) ws = rw (masked_is c ws) (length-set ws (length ws - 1) (slice_index ws (length ws - 1) % 2 ^ suc c))

module _ (ws : List ℕ) (n w : ℕ) (long : length ws ≡ (n * w + 63) / 64) where
  -- the elements stay
  same_element : (k : ℕ) → k < n → element (masked (n * w % 64) ws) w k ≡ element ws w k
  same_element k within = go (n * w % 64) refl
    where
      inside : k * w + w ≤ n * w
      inside = row_fits k w n w within (omega arith)

      go : (b : ℕ) → n * w % 64 ≡ b → element (masked b ws) w k ≡ element ws w k
      go zero e = refl
      go (suc c) e = rw (masked_is c ws) (⊎_elim
          (λ here.
          let v = slice_index ws (length ws - 1) % 2 ^ suc c in
          let there : get_or (set ws (length ws - 1) v) (k * w / 64) 0 ≡ v = ap (λ q. get_or (set ws (length ws - 1) v) q 0) here ∙ get_or-set_same ws (length ws - 1) v 0 (omega (arith, long, e)) in
          let fits : k * w % 64 + w ≤ suc c = omega (arith, inside, here, long, e) in
          ap (λ x. x / 2 ^ (k * w % 64) % 2 ^ w) there ∙ low_bits (slice_index ws (length ws - 1)) (k * w % 64) w (suc c) fits ∙ ap (λ q. slice_index ws q / 2 ^ (k * w % 64) % 2 ^ w) (sym here))
          (λ other. ap (λ x. x / 2 ^ (k * w % 64) % 2 ^ w) (get_or-set_other ws (length ws - 1) (k * w / 64) _ 0 other))
          (cases_eq (k * w / 64) (length ws - 1)))

  -- the bits past them are zero
  no_element : (k : ℕ) → n * w ≤ k → element (masked (n * w % 64) ws) 1 k ≡ 0
  no_element k past = go (n * w % 64) refl
    where
      go : (b : ℕ) → n * w % 64 ≡ b → element (masked b ws) 1 k ≡ 0
      go zero e = ap (λ x. x / 2 ^ (k * 1 % 64) % 2 ^ 1) (get_or_past ws (k * 1 / 64) 0 (omega (arith, long, e, past))) ∙ nothing (k * 1 % 64)
      go (suc c) e = rw (masked_is c ws) (⊎_elim
          (λ here.
          let v = slice_index ws (length ws - 1) % 2 ^ suc c in
          let there : get_or (set ws (length ws - 1) v) (k * 1 / 64) 0 ≡ v = ap (λ q. get_or (set ws (length ws - 1) v) q 0) here ∙ get_or-set_same ws (length ws - 1) v 0 (omega (arith, long, e)) in
          ap (λ x. x / 2 ^ (k * 1 % 64) % 2 ^ 1) there ∙ no_bits (slice_index ws (length ws - 1)) (k * 1 % 64) (suc c) (omega (arith, here, long, e, past)))
          (λ other.
          let none : get_or (set ws (length ws - 1) (slice_index ws (length ws - 1) % 2 ^ suc c)) (k * 1 / 64) 0 ≡ 0 = get_or-set_other ws (length ws - 1) (k * 1 / 64) _ 0 other ∙ get_or_past ws (k * 1 / 64) 0 (omega (arith, long, e, past, other)) in
          ap (λ x. x / 2 ^ (k * 1 % 64) % 2 ^ 1) none ∙ nothing (k * 1 % 64))
          (cases_eq (k * 1 / 64) (length ws - 1)))

  same_map : {X : Type 0} (f : ℕ → X) (d : X) → map (λ k. f (element (masked (n * w % 64) ws) w k)) (range_with_len 0 n) ≡ map (λ k. f (element ws w k)) (range_with_len 0 n)
  same_map f d = ext_get_or d _ _ (length-map (range_with_len 0 n) _ ∙ sym (length-map (range_with_len 0 n) _))
      (λ i lt.
      let within : i < n = omega (arith, lt, length-map (range_with_len 0 n) (λ k. f (element (masked (n * w % 64) ws) w k)), length-range_with_len 0 n) in
      get_or-map-range_with_len (λ k. f (element (masked (n * w % 64) ws) w k)) 0 n i i d within (omega arith) ∙ ap f (same_element i within) ∙ sym (get_or-map-range_with_len (λ k. f (element ws w k)) 0 n i i d within (omega arith)))

pub count-map : {X : Type 0} (f : ℕ → X) (n : ℕ) → length (map f (range_with_len 0 n)) ≡ n
count-map f n = length-map (range_with_len 0 n) f ∙ length-range_with_len 0 n

-- words that hold the elements, and the same number of words
holds : (size : ElementSize) (n : ℕ) (ws : List ℕ) → IsData size → length ws ≡ words_for size n → HoldElements (masked (n * bits_of size % 64) ws) (elements_of ws size n)
holds sizes.Void n ws plain long = record { elements = refl; padding = λ k past. no_element ws n 0 long k past }
holds sizes.Bit n ws plain long =
    let number = count-map (λ k. element ws 1 k == 1) n in
    record {
      elements = ap bits (sym (same_map ws n 1 long (λ x. x == 1) false) ∙ ap (λ m. flags (masked (n * 1 % 64) ws) m) (sym number));
      padding = λ k past. no_element ws n 1 long k (omega (arith, past, number));
    }
holds sizes.Byte n ws plain long =
    let number = count-map (element ws 8) n in
    record { elements = ap bytes (sym (same_map ws n 8 long (λ x. x) 0) ∙ ap (λ m. numbers (masked (n * 8 % 64) ws) 8 m) (sym number)); padding = λ k past. no_element ws n 8 long k (omega (arith, past, number)) }
holds sizes.TwoBytes n ws plain long =
    let number = count-map (element ws 16) n in
    record { elements = ap halves (sym (same_map ws n 16 long (λ x. x) 0) ∙ ap (λ m. numbers (masked (n * 16 % 64) ws) 16 m) (sym number)); padding = λ k past. no_element ws n 16 long k (omega (arith, past, number)) }
holds sizes.FourBytes n ws plain long =
    let number = count-map (element ws 32) n in
    record { elements = ap quads (sym (same_map ws n 32 long (λ x. x) 0) ∙ ap (λ m. numbers (masked (n * 32 % 64) ws) 32 m) (sym number)); padding = λ k past. no_element ws n 32 long k (omega (arith, past, number)) }
holds sizes.EightBytes n ws plain long =
    let number = count-map (element ws 64) n in
    record { elements = ap words (sym (same_map ws n 64 long (λ x. x) 0) ∙ ap (λ m. numbers (masked (n * 64 % 64) ws) 64 m) (sym number)); padding = λ k past. no_element ws n 64 long k (omega (arith, past, number)) }
holds sizes.Pointer n ws plain long = absurd plain
holds sizes.Composite n ws plain long = absurd plain

masked_small : (b : ℕ) (ws : List ℕ) → AllFit 64 ws → (i : ℕ) → slice_index (masked b ws) i < 2 ^ 64
masked_small zero ws fit i = word_at_fits ws fit i
masked_small (suc c) ws fit i =
    let v = slice_index ws (length ws - 1) % 2 ^ suc c in
    let past : length ws ≡ 0 → get_or (set ws (length ws - 1) v) i 0 ≡ 0 = λ none. get_or_past (set ws (length ws - 1) v) i 0 (omega (arith, none, length-set ws (length ws - 1) v)) in
    let there : i ≡ length ws - 1 → (length ws ≡ 0 → ⊥) → get_or (set ws (length ws - 1) v) i 0 ≡ v = λ here some. ap (λ q. get_or (set ws (length ws - 1) v) q 0) here ∙ get_or-set_same ws (length ws - 1) v 0 (omega (arith, some)) in
    let small : v < 2 ^ 64 = omega (arith, mod-le (slice_index ws (length ws - 1)) (2 ^ suc c), word_at_fits ws fit (length ws - 1)) in
    rw (masked_is c ws) (⊎_elim
    (λ here. ⊎_elim (λ none. omega (arith, past none)) (λ some. omega (arith, there here some, small)) (cases_eq (length ws) 0))
    (λ other. omega (arith, get_or-set_other ws (length ws - 1) i v 0 other, word_at_fits ws fit i))
    (cases_eq i (length ws - 1)))

element_size-of : (size : ElementSize) (n : ℕ) (ws : List ℕ) → IsData size → words_for (element_size (elements_of ws size n)) (element_count (elements_of ws size n)) ≡ words_for size n
element_size-of sizes.Void n ws d = refl
element_size-of sizes.Bit n ws d = ap (words_for sizes.Bit) (count-map (λ k. element ws 1 k == 1) n)
element_size-of sizes.Byte n ws d = ap (words_for sizes.Byte) (count-map (element ws 8) n)
element_size-of sizes.TwoBytes n ws d = ap (words_for sizes.TwoBytes) (count-map (element ws 16) n)
element_size-of sizes.FourBytes n ws d = ap (words_for sizes.FourBytes) (count-map (element ws 32) n)
element_size-of sizes.EightBytes n ws d = ap (words_for sizes.EightBytes) (count-map (element ws 64) n)
element_size-of sizes.Pointer n ws d = absurd d
element_size-of sizes.Composite n ws d = absurd d

pub length-elements : (size : ElementSize) (n : ℕ) (ws : List ℕ) → IsData size → length ws ≡ words_for size n → length (packed (elements_of ws size n)) ≡ length ws
length-elements size n ws d long = packed_length (elements_of ws size n) ∙ element_size-of size n ws d ∙ sym long

-- the words that a writer makes of these elements
pub packed-elements : (size : ElementSize) (n : ℕ) (ws : List ℕ) → IsData size → length ws ≡ words_for size n → ElementsFit (elements_of ws size n) → AllFit 64 ws → packed (elements_of ws size n) ≡ masked (n * bits_of size % 64) ws
packed-elements size n ws d long fit small =
    let es = elements_of ws size n in
    let b = n * bits_of size % 64 in
    ext_get_or 0 (packed es) (masked b ws) (length-elements size n ws d long ∙ sym (length-masked b ws))
    (λ i lt. one_held (packed es) (masked b ws) es i (packed_holds es fit) (holds size n ws d long) (word_at_fits (packed es) (packed_fits es fit) i) (masked_small b ws small i))

-- the mask reaches the words that were appended alone
pub masked-append : (b : ℕ) (xs ws : List ℕ) → (0 < b → 0 < length ws) → masked b (xs ++ ws) ≡ xs ++ masked b ws
masked-append zero xs ws some = refl
masked-append (suc c) xs ws some =
    let more : 0 < length ws = some (omega arith) in
    let total : length (xs ++ ws) ≡ length xs + length ws = length-append xs ws in
    let last : length (xs ++ ws) - 1 - length xs ≡ length ws - 1 = omega (arith, total, more) in
    let word : slice_index (xs ++ ws) (length (xs ++ ws) - 1) ≡ slice_index ws (length ws - 1) = get_or-append_right xs ws (length xs) (length (xs ++ ws) - 1) 0 refl (omega (arith, total, more)) ∙ ap (slice_index ws) last in
    rw (masked_is c (xs ++ ws), masked_is c ws) (set-append_right xs ws (length xs) (length (xs ++ ws) - 1) (slice_index (xs ++ ws) (length (xs ++ ws) - 1) % 2 ^ suc c) refl (omega (arith, total, more)) ∙ ap (λ q. xs ++ set ws q (slice_index (xs ++ ws) (length (xs ++ ws) - 1) % 2 ^ suc c)) last ∙ ap (λ x. xs ++ set ws (length ws - 1) (x % 2 ^ suc c)) word)
