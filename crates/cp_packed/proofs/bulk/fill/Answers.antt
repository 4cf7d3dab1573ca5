use Rattle.std.proofs.Common.{◌≡◌, ◌+◌, ◌-◌, ◌≤◌, ℕ, List, length, sym, ◌∙◌, subst, arith}
use borrow.Rule.Slice.PartMut.{mid_of, mid_len, same_len_mid}
use Rattle.cp_packed.specs.Groups.{FillsFront}
use Rattle.cp_packed.proofs.Blocks.{tail_put, fills_both}
use Rattle.cp_packed.proofs.bulk.fill.Goals as goal

pub filling-preserved : goal.filling-preserved
filling-preserved c =
    let l = c.filling in
    let most = length c.args.block.now in
    let h = l.invariant in
    let n = length l.block - l.filled in
    let size : length (mid_of l.filled n l.block) ≡ most - l.filled = mid_len l.filled (length l.block) l.block (omega arith) ∙ omega (arith, h.2) in
    let here : l.filled ≤ length l.block = omega (arith, h.1, h.2) in
    let more = subst (λ (m : ℕ). FillsFront m l.left.now c.take_short-count.new.block c.take_short-count.result.0 c.take_short-count.result.1.now) size c.take_short-count.ensures in (
      subst (λ (ws : List ℕ). FillsFront most c.args.left.now ws (l.filled + c.take_short-count.result.0) c.take_short-count.result.1.now) (sym (tail_put l.filled l.block c.take_short-count.new.block here))
          (fills_both most l.filled c.take_short-count.result.0 c.args.left.now l.block l.left.now c.take_short-count.new.block c.take_short-count.result.1.now h.0 more h.1),
      omega (arith, more.takes.within, more.count, h.1),
      same_len_mid l.filled n l.block c.take_short-count.new.block c.take_short-count.auto.block ∙ h.2,
    )
