use Rattle.std.proofs.Common.{arith}
use Rattle.cp_packed.proofs.Places.{lanes_ok, gathers}
use Rattle.cp_packed.proofs.gather.gathered.Goals as goal

pub swizzle : goal.swizzle
swizzle c = lanes_ok c.args.mask _ c.widened-2.result (omega (arith, c.ranges.mask.fits)) c.widened-2.ensures

pub returns : goal.returns
returns c = gathers c.args.bytes.now c.widened.result c.args.mask _ c.widened-2.result c.told-bytes (omega (arith, c.ranges.mask.fits)) c.requires c.widened.ensures c.widened-2.ensures
