use Rattle.std.proofs.Common.{ℕ, List, eqb, ap, ◌∙◌, count_by, arith, w8}
use lib.Count.{ones}
use Rattle.std.proofs.lemmas.Simd.{bitmask_splat}
use Rattle.cp_packed.proofs.Masks.{zeros_counted}
use Rattle.cp_packed.proofs.runs.count_zeros.Goals as goal

pub returns : goal.returns
returns c =
    let b = c.to_le_bytes.result in
    ap ones (bitmask_splat w8 eqb b 8 0 (omega arith) (omega arith)) ∙ zeros_counted b ∙ ap (λ (l : List ℕ). count_by (eqb 0) l) c.to_le_bytes.ensures
