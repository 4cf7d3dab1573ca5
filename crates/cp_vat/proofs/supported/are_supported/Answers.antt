use Rattle.std.proofs.Common.{sym, ◌∙◌}
use Rattle.cp_rpc.specs.Viewed.{viewed_descriptor}
use Rattle.cp_vat_machine.specs.Supported.{is_supported_descriptor}
use Rattle.cp_vat.proofs.Listing.{all_more, all_fails}
use Rattle.cp_vat.proofs.supported.are_supported.Goals as goal

pub returns-then-not-is_supported_descriptor : goal.returns-then-not-is_supported_descriptor
returns-then-not-is_supported_descriptor g c =
    let d = viewed_descriptor g.S.Source.seen c.descriptor.result in
    all_fails is_supported_descriptor c.args.table.now c.loop-i.i d (rw c.len-i-end.ensures at c.loop-i-test.true) (c.descriptor.ensures d) (sym c.is_supported_descriptor.ensures ∙ c.if-not-is_supported_descriptor.true)

pub loop-i-preserved : goal.loop-i-preserved
loop-i-preserved g c =
    let d = viewed_descriptor g.S.Source.seen c.descriptor.result in
    all_more is_supported_descriptor c.args.table.now c.loop-i.i d (rw c.len-i-end.ensures at c.loop-i-test.true) (c.descriptor.ensures d) c.loop-i.invariant (sym c.is_supported_descriptor.ensures ∙ c.if-not-is_supported_descriptor.false)
