use Rattle.std.proofs.Common.{not, eqb, take, arith, w64}
use Rattle.std.proofs.lemmas.List.{length-take-le}
use Rattle.std.proofs.lemmas.Simd.{bitmask_splat}
use Rattle.cp_packed.proofs.ahead.mask_of.Goals as goal

pub returns : goal.returns
returns c =
    let words = c.args.words.now in
    bitmask_splat w64 (λ a b. not (eqb a b)) (take 64 words) 64 0 (length-take-le 64 words (omega (arith, c.requires))) (omega arith)
