use Rattle.std.proofs.Common.{◌≡◌, ◌≤◌, ◌-◌, ◌^◌, ℕ, eqb, ap, subst, sym, length, ◌∙◌, arith, w8}
use Rattle.std.proofs.lemmas.Simd.{bitmask_splat}
use Rattle.cp_packed.proofs.Masks.{tag_mask}
use Rattle.cp_packed.proofs.spelling.tag_of.Goals as goal

pub returns : goal.returns
returns c =
    let b = c.args.bytes.now in
    let long : length b ≡ 8 = omega arith in
    let zeros = bitmask_splat w8 eqb b 8 0 long (omega arith) in
    let power : 2 ^ length b ≡ 256 = ap (λ (n : ℕ). 2 ^ n) long in
    ap (λ (n : ℕ). 255 - n) zeros ∙ omega (arith, tag_mask b, power)

pub overflow_sub-result : goal.overflow_sub-result
overflow_sub-result c =
    let b = c.args.bytes.now in
    let long : length b ≡ 8 = omega arith in
    let zeros = bitmask_splat w8 eqb b 8 0 long (omega arith) in
    let power : 2 ^ length b ≡ 256 = ap (λ (n : ℕ). 2 ^ n) long in
    subst (λ (n : ℕ). n ≤ 255) (sym zeros) (omega (arith, tag_mask b, power))
