use Rattle.std.proofs.Common.{refl, arith}
use Rattle.cp_packed.proofs.Sparing.{front_none, front_both}
use Rattle.cp_packed.proofs.packing.push_groups.Goals as goal

pub packing-init : goal.packing-init
packing-init c = (front_none c.args.out.now.items c.args.words.now, omega arith, λ e. refl)

pub packing-preserved : goal.packing-preserved
packing-preserved c =
    let l = c.packing in (
      front_both c.args.out.now.items l.out.items c.push_some.new.out.items c.args.words.now l.left.now c.in_ok-left.left.now l.invariant.0 c.in_ok-left.ensures.front,
      omega (arith, l.invariant.1, c.in_ok-left.ensures.few),
      λ e. absurd (omega (arith, e, l.invariant.1, c.packing-test.true)),
    )
