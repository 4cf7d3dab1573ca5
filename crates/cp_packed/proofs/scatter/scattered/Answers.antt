use Rattle.std.proofs.Common.{take, refl, ◌∙◌, arith}
use Rattle.cp_packed.proofs.Sources.{sources_ok, scatters}
use Rattle.cp_packed.proofs.scatter.scattered.Goals as goal

pub swizzle-lanes : goal.swizzle-lanes
swizzle-lanes c = sources_ok c.args.tag _ c.widened-2.result (omega (arith, c.ranges.tag.fits)) c.widened-2.ensures

pub returns : goal.returns
returns c =
    c.copy_from_slice.ensures.after
    ∙ scatters c.args.written.now (take 8 c.args.written.now) c.widened.result c.args.tag _ c.widened-2.result c.requires (omega (arith, c.ranges.tag.fits)) refl c.widened.ensures c.widened-2.ensures
