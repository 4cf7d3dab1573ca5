use Rattle.std.proofs.Common.{◌-◌, ◌<◌, sym, ap, ◌∙◌, arith}
use Rattle.cp_tree.specs.Node.{count, row_of}
use Rattle.cp_reading.proofs.Builds.{part-row}
use Rattle.cp_canonical.specs.Cut.{is_null}
use Rattle.cp_canonical.proofs.Tops.{null-shape, some-shape}
use Rattle.cp_canonical.proofs.Uses.{used_ptrs-skips, used_ptrs-stops, used_ptrs-within}
use Rattle.cp_canonical.proofs.used.used_ptrs.Goals as goal

pub loop-i-init : goal.loop-i-init
loop-i-init c = omega (arith, used_ptrs-within (row_of c.args.view.now), c.requires.all)

pub loop-i-preserved : goal.loop-i-preserved
loop-i-preserved c =
    let v = c.args.view.now in
    let within : c.loop-i.i - 1 < count (row_of v) = omega (arith, c.requires.all, c.loop-i-test.true, c.loop-i.auto.i) in
    let null = null-shape c.child.result c.in-Null.ensures.is in
    used_ptrs-skips (row_of v) (c.loop-i.i - 1) (omega (arith, c.loop-i.invariant, c.loop-i-test.true)) (ap is_null (sym (part-row v (c.loop-i.i - 1) within) ∙ sym c.child.ensures ∙ null))

pub returns-in_default : goal.returns-in_default
returns-in_default c =
    let v = c.args.view.now in
    let within : c.loop-i.i - 1 < count (row_of v) = omega (arith, c.requires.all, c.loop-i-test.true, c.loop-i.auto.i) in
    let some = some-shape c.child.result (λ e. c.in_default.not-Null (c.shape.ensures.is ∙ sym e)) in
    let stops = used_ptrs-stops (row_of v) (c.loop-i.i - 1) (omega (arith, c.loop-i.invariant, c.loop-i-test.true)) (ap is_null (sym (part-row v (c.loop-i.i - 1) within) ∙ sym c.child.ensures) ∙ some) in
    record { used = omega (arith, stops, c.loop-i-test.true); within = omega (arith, c.loop-i.auto.i, c.loop-i-test.true) }
