-- A word of which some bits are replaced.
use Rattle.std.proofs.Common.{◌≡◌, ℕ, zero, suc, ◌+◌, ◌-◌, ◌*◌, ◌/◌, ◌%◌, ◌^◌, ◌<◌, ◌≤◌, refl, ap, sym, subst, ◌∙◌, arith}
use Rattle.std.proofs.lemmas.Nat.{shr-shr, shr_below, shl_whole, or_shifted, mul-add-lt, pow-add, pow_below, pow_pos, mod_below}
use Rattle.std.specs.Prelude.{bit_or}
use Rattle.cp_builder.specs.Numbers.{put}

-- the bits above those that are replaced
above_is : (word w s : ℕ) → word / 2 ^ s / 2 ^ w ≡ word / 2 ^ (s + w)
above_is word w s = shr-shr word s w

above_below : (word w s : ℕ) → word < 2 ^ 64 → s + w ≤ 64 → word / 2 ^ (s + w) < 2 ^ (64 - (s + w))
above_below word w s small within = shr_below word (64 - (s + w)) (s + w) (subst (λ (k : ℕ). word < 2 ^ k) {x = 64} {y = 64 - (s + w) + (s + w)} (omega (arith, within)) small)

-- the new bits with those above them
joined : (a w s n : ℕ) → a < 2 ^ (64 - (s + w)) → n < 2 ^ w → s + w ≤ 64 → bit_or (a * 2 ^ w % 2 ^ 64) n ≡ a * 2 ^ w + n
joined a w s n high small within =
    ap (λ x. bit_or x n) (shl_whole a (64 - (s + w)) w 64 high (omega (arith, within)))
    ∙ or_shifted a w n small

joined_below : (a w s n : ℕ) → a < 2 ^ (64 - (s + w)) → n < 2 ^ w → s + w ≤ 64 → a * 2 ^ w + n < 2 ^ (64 - s)
joined_below a w s n high small within =
    subst (λ x. a * 2 ^ w + n < x) (sym (pow-add 2 w (64 - (s + w))) ∙ ap (λ k. 2 ^ k) (omega (arith, within))) (mul-add-lt a (2 ^ w) n (2 ^ (64 - (s + w))) high small)

one_shifted : (s : ℕ) → s < 64 → 1 * 2 ^ s % 2 ^ 64 ≡ 2 ^ s
one_shifted s first = shl_whole 1 1 s 64 (omega arith) (omega (arith, first)) ∙ omega arith

pub put_is : (word w s n : ℕ) → word < 2 ^ 64 → s < 64 → s + w ≤ 64 → n < 2 ^ w
    → bit_or (bit_or (word / 2 ^ s / 2 ^ w * 2 ^ w % 2 ^ 64) n * 2 ^ s % 2 ^ 64) (word % (1 * 2 ^ s % 2 ^ 64)) ≡ put word w s n
put_is word w s n small first within fits =
    let a : ℕ = word / 2 ^ (s + w) in
    let high : a < 2 ^ (64 - (s + w)) = above_below word w s small within in
    let both : bit_or (word / 2 ^ s / 2 ^ w * 2 ^ w % 2 ^ 64) n ≡ a * 2 ^ w + n = ap (λ x. bit_or (x * 2 ^ w % 2 ^ 64) n) (above_is word w s) ∙ joined a w s n high fits within in
    ap (λ (x : ℕ). bit_or (bit_or (word / 2 ^ s / 2 ^ w * 2 ^ w % 2 ^ 64) n * 2 ^ s % 2 ^ 64) (word % x)) (one_shifted s first)
    ∙ ap (λ x. bit_or (x * 2 ^ s % 2 ^ 64) (word % 2 ^ s)) both
    ∙ ap (λ x. bit_or x (word % 2 ^ s)) (shl_whole (a * 2 ^ w + n) (64 - s) s 64 (joined_below a w s n high fits within) (omega (arith, first)))
    ∙ or_shifted (a * 2 ^ w + n) s (word % 2 ^ s) (mod_below word (2 ^ s) (pow_pos s))
