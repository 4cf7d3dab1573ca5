use Rattle.std.proofs.Common.{arith}
use Rattle.cp_refs.proofs.bytes.raised.Goals as goal

pub returns : goal.returns
returns c n is = omega (arith, c.saturating_add-count.ensures, c.if-count.false, is)
