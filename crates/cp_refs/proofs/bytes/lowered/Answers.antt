use Rattle.std.proofs.Common.{arith}
use Rattle.cp_refs.proofs.bytes.lowered.Goals as goal

pub returns : goal.returns
returns c n is = omega (arith, c.saturating_sub.ensures, c.ranges.count, is)
