use Rattle.std.proofs.Common.{sym, ◌∙◌}
use Rattle.cp_rpc.specs.Viewed.{viewed_descriptor}
use Rattle.cp_vat_machine.specs.Capacity.{descriptor_fits}
use Rattle.cp_vat.proofs.Listing.{all_more, all_fails}
use Rattle.cp_vat.proofs.sizes.all_descriptors_fit.Goals as goal

pub returns-then-not-descriptor_fits : goal.returns-then-not-descriptor_fits
returns-then-not-descriptor_fits g c =
    let d = viewed_descriptor g.S.Source.seen c.descriptor.result in
    all_fails descriptor_fits c.args.table.now c.loop-i.i d (rw c.len-i-end.ensures at c.loop-i-test.true) (c.descriptor.ensures d) (sym c.descriptor_fits.ensures ∙ c.if-not-descriptor_fits.true)

pub loop-i-preserved : goal.loop-i-preserved
loop-i-preserved g c =
    let d = viewed_descriptor g.S.Source.seen c.descriptor.result in
    all_more descriptor_fits c.args.table.now c.loop-i.i d (rw c.len-i-end.ensures at c.loop-i-test.true) (c.descriptor.ensures d) c.loop-i.invariant (sym c.descriptor_fits.ensures ∙ c.if-not-descriptor_fits.false)
