use Rattle.std.proofs.Common.{arith}
use Rattle.cp_builder.proofs.Copied.{row-placed, bodies-placed}
use Rattle.cp_builder.proofs.copies.+place.Goals as goal

pub place_row-returns : goal.place_row-returns
place_row-returns t c =
    let l = c.loop-i in
    row-placed c.args.places.now l.trees.items c.args.trees.now.items l.invariant.1.0 (λ k d h. l.invariant.0 k d (omega (arith, h, l.invariant.1.0)))

pub place_bodies-returns : goal.place_bodies-returns
place_bodies-returns t c =
    let l = c.loop-i in
    bodies-placed c.args.places.now l.items.items c.args.items.now.items l.invariant.1.0 (λ k d h. l.invariant.0 k d (omega (arith, h, l.invariant.1.0)))
