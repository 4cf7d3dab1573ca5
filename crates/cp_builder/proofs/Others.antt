-- What was not set stays.
use Rattle.std.proofs.Common.{◌≡◌, ◌≢◌, ◌⊎◌, inl, inr, ⊎_elim, eq-or-lt_of_le, [], ◌∷◌, ℕ, zero, suc, ◌+◌, ◌-◌, ◌*◌, ◌/◌, ◌%◌, ◌^◌, ◌<◌, ◌≤◌, List, length, set, get_or, get_or-set_same, get_or-set_other, ap, ◌∙◌, refl, arith, subst, sym}
use Rattle.std.specs.Prelude.{slice_index}
use Rattle.std.proofs.lemmas.Nat.{shr-shr, shr_high, mod_low, mod_below, pow_pos, field_of}
use lib.Pow.{mod-mod-pow}
use Rattle.cp_tree.specs.Node.{Node, null, cap, struct, list, ptrs, structs, Nodes, no_nodes, node}
use Rattle.cp_tree.specs.Seen.{pointee_of, node_at}
use Rattle.cp_tree.specs.Elements.{element}
use Rattle.cp_fields.specs.Numbers.{plain}
use Rattle.cp_builder.specs.Numbers.{put, with_number, AreApart, IsInWord, IsNumber}
use Rattle.cp_builder.specs.Drafts.{with_uint, with_node, with_pointer}

-- bits below those that are replaced stay
put_low : (word w s n : ℕ) → put word w s n % 2 ^ s ≡ word % 2 ^ s
put_low word w s n = mod_low (word / 2 ^ (s + w) * 2 ^ w + n) s (word % 2 ^ s) (mod_below word (2 ^ s) (pow_pos s))

-- bits above them stay
put_high : (word w s n : ℕ) → n < 2 ^ w → put word w s n / 2 ^ (s + w) ≡ word / 2 ^ (s + w)
put_high word w s n small =
    sym (shr-shr (put word w s n) s w)
    ∙ ap (λ (x : ℕ). x / 2 ^ w) (shr_high (word / 2 ^ (s + w) * 2 ^ w + n) s (word % 2 ^ s) (mod_below word (2 ^ s) (pow_pos s)))
    ∙ shr_high (word / 2 ^ (s + w)) w n small

pub pointer_beside : (t : Node) (w i n j : ℕ) → pointee_of (with_uint t w i n) j ≡ pointee_of t j
pointer_beside null w i n j = refl
pointer_beside (cap k) w i n j = refl
pointer_beside (struct ws ts) w i n j = refl
pointer_beside (list es) w i n j = refl
pointer_beside (ptrs ts) w i n j = refl
pointer_beside (structs d k bs) w i n j = refl

pub number_beside : (t : Node) (i : ℕ) (x : Node) (w j : ℕ) → plain (with_pointer t i x) w j ≡ plain t w j
number_beside null i x w j = refl
number_beside (cap k) i x w j = refl
number_beside (struct ws ts) i x w j = refl
number_beside (list es) i x w j = refl
number_beside (ptrs ts) i x w j = refl
number_beside (structs d k bs) i x w j = refl

nodes_stay : (ts : Nodes) (i : ℕ) (x : Node) (j : ℕ) → i ≢ j → node_at (with_node ts i x) j ≡ node_at ts j
nodes_stay no_nodes i x j other = refl
nodes_stay (node t ts) zero x zero other = absurd (other refl)
nodes_stay (node t ts) zero x (suc j) other = refl
nodes_stay (node t ts) (suc i) x zero other = refl
nodes_stay (node t ts) (suc i) x (suc j) other = nodes_stay ts i x j (λ same. other (ap suc same))

pub pointer_stays : (t : Node) (i : ℕ) (x : Node) (j : ℕ) → i ≢ j → pointee_of (with_pointer t i x) j ≡ pointee_of t j
pointer_stays null i x j other = refl
pointer_stays (cap k) i x j other = refl
pointer_stays (struct ws ts) i x j other = nodes_stay ts i x j other
pointer_stays (list es) i x j other = refl
pointer_stays (ptrs ts) i x j other = refl
pointer_stays (structs d k bs) i x j other = refl

-- a number that is read from the bits below some is read from those alone
low_alone : (x s v t : ℕ) → t + v ≤ s → x / 2 ^ t % 2 ^ v ≡ x % 2 ^ s % 2 ^ (v + t) / 2 ^ t
low_alone x s v t below =
    sym (field_of x v t)
    ∙ ap (λ (y : ℕ). y / 2 ^ t) (sym (mod-mod-pow x (s - (v + t)) (v + t)) ∙ ap (λ (k : ℕ). x % 2 ^ k % 2 ^ (v + t)) (omega (arith, below)))

-- a number of a word whose bits below some stay
low_stays : (old new s v t : ℕ) → new % 2 ^ s ≡ old % 2 ^ s → t + v ≤ s → new / 2 ^ t % 2 ^ v ≡ old / 2 ^ t % 2 ^ v
low_stays old new s v t same below =
    low_alone new s v t below ∙ ap (λ (y : ℕ). y % 2 ^ (v + t) / 2 ^ t) same ∙ sym (low_alone old s v t below)

-- a number of a word whose bits from some on stay
high_stays : (old new s v t : ℕ) → new / 2 ^ s ≡ old / 2 ^ s → s ≤ t → new / 2 ^ t % 2 ^ v ≡ old / 2 ^ t % 2 ^ v
high_stays old new s v t same above =
    let apart : (x : ℕ) → x / 2 ^ t ≡ x / 2 ^ s / 2 ^ (t - s) = λ x. ap (λ (k : ℕ). x / 2 ^ k) (omega (arith, above)) ∙ sym (shr-shr x s (t - s)) in
    ap (λ (x : ℕ). x % 2 ^ v) (apart new ∙ ap (λ (x : ℕ). x / 2 ^ (t - s)) same ∙ sym (apart old))

-- a number of a word of which other bits are replaced
put_stays : (word w s n v t : ℕ) → n < 2 ^ w → (t + v ≤ s) ⊎ (s + w ≤ t) → put word w s n / 2 ^ t % 2 ^ v ≡ word / 2 ^ t % 2 ^ v
put_stays word w s n v t small =
    ⊎_elim
    (λ below. low_stays word (put word w s n) s v t (put_low word w s n) below)
    (λ above. high_stays word (put word w s n) (s + w) v t (put_high word w s n small) above)

-- a number of a list of words, one of which gives it as before
word_stays : (ws : List ℕ) (k new v t : ℕ) → new / 2 ^ t % 2 ^ v ≡ get_or ws k 0 / 2 ^ t % 2 ^ v → get_or (set ws k new) k 0 / 2 ^ t % 2 ^ v ≡ get_or ws k 0 / 2 ^ t % 2 ^ v
word_stays [] k new v t same = refl
word_stays (w ∷ ws) zero new v t same = same
word_stays (w ∷ ws) (suc k) new v t same = word_stays ws k new v t same

-- numbers of one word: that at bit b is beside that at bit a
in_word : (ws : List ℕ) (w n v a b : ℕ) → n < 2 ^ w → b / 64 ≡ a / 64 → (b % 64 + v ≤ a % 64) ⊎ (a % 64 + w ≤ b % 64)
    → get_or (set ws (a / 64) (put (get_or ws (a / 64) 0) w (a % 64) n)) (b / 64) 0 / 2 ^ (b % 64) % 2 ^ v ≡ get_or ws (b / 64) 0 / 2 ^ (b % 64) % 2 ^ v
in_word ws w n v a b small same apart =
    subst (λ (k : ℕ). get_or (set ws (a / 64) (put (get_or ws (a / 64) 0) w (a % 64) n)) k 0 / 2 ^ (b % 64) % 2 ^ v ≡ get_or ws k 0 / 2 ^ (b % 64) % 2 ^ v) (sym same)
    (word_stays ws (a / 64) (put (get_or ws (a / 64) 0) w (a % 64) n) v (b % 64) (put_stays (get_or ws (a / 64) 0) w (a % 64) n v (b % 64) small apart))

-- numbers of two words
in_others : (ws : List ℕ) (new v a b : ℕ) → b / 64 ≢ a / 64
    → get_or (set ws (a / 64) new) (b / 64) 0 / 2 ^ (b % 64) % 2 ^ v ≡ get_or ws (b / 64) 0 / 2 ^ (b % 64) % 2 ^ v
in_others ws new v a b other = ap (λ (x : ℕ). x / 2 ^ (b % 64) % 2 ^ v) (get_or-set_other ws (a / 64) (b / 64) new 0 other)

word_before : (w i v j : ℕ) → j * v + v ≤ i * w → j * v / 64 ≤ i * w / 64
word_before w i v j before = omega (arith, before)

element_stays : (ws : List ℕ) (w i n v j : ℕ) → i * w % 64 + w ≤ 64 → j * v % 64 + v ≤ 64 → n < 2 ^ w → (j * v + v ≤ i * w) ⊎ (i * w + w ≤ j * v)
    → element (with_number ws w i n) v j ≡ element ws v j
element_stays ws w i n v j whole other small =
    ⊎_elim
    (λ before. ⊎_elim
    (λ same. in_word ws w n v (i * w) (j * v) small same (inl (omega (arith, same, before, whole, other))))
    (λ less. in_others ws (put (slice_index ws (i * w / 64)) w (i * w % 64) n) v (i * w) (j * v) (λ same. omega (arith, same, less)))
    (eq-or-lt_of_le (word_before w i v j before)))
    (λ after. ⊎_elim
    (λ same. in_word ws w n v (i * w) (j * v) small (sym same) (inr (omega (arith, same, after, whole, other))))
    (λ less. in_others ws (put (slice_index ws (i * w / 64)) w (i * w % 64) n) v (i * w) (j * v) (λ same. omega (arith, same, less)))
    (eq-or-lt_of_le (word_before v j w i after)))

pub number_stays : (t : Node) (w i n v j : ℕ) → IsNumber w i n → IsInWord v j → AreApart w i v j → plain (with_uint t w i n) v j ≡ plain t v j
number_stays null w i n v j whole other apart = refl
number_stays (cap k) w i n v j whole other apart = refl
number_stays (struct ws ts) w i n v j number other apart = element_stays ws w i n v j number.0 other number.1 apart
number_stays (list es) w i n v j whole other apart = refl
number_stays (ptrs ts) w i n v j whole other apart = refl
number_stays (structs d k bs) w i n v j whole other apart = refl
