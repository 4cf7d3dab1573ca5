use Rattle.std.proofs.Common.{◌≡◌, ◌-◌, [], length, refl, ◌∙◌, arith}
use borrow.Rule.Slice.PartMut.{mid_len, same_len_mid}
use Rattle.cp_packed.proofs.Sparing.{front_none}
use Rattle.cp_packed.proofs.Putting.{front_joins}
use Rattle.cp_packed.proofs.packing.put_groups.Goals as goal

pub putting-init : goal.putting-init
putting-init c = (front_none [] c.args.words.now, omega arith, omega arith, refl)

pub putting-preserved : goal.putting-preserved
putting-preserved c =
    let l = c.putting in
    let n = length l.block - l.filled in
    let part = c.put_next-count.new.block in
    let count = c.put_next-count.result.0 in
    let same = same_len_mid l.filled n l.block part c.put_next-count.auto.block in
    let size : length part ≡ n = c.put_next-count.auto.block ∙ mid_len l.filled (length l.block) l.block (omega arith) in (
      front_joins l.filled count l.block part c.args.words.now l.left.now c.put_next-count.result.1.now l.invariant.2 l.invariant.0 c.put_next-count.ensures.front,
      omega (arith, l.invariant.1, c.put_next-count.ensures.little),
      omega (arith, l.invariant.2, c.put_next-count.ensures.within, size, same),
      same ∙ l.invariant.3,
    )
