use Rattle.std.proofs.Common.{arith}
use Rattle.cp_vat.proofs.vat.Vat.contents.Goals as goal

pub returns : goal.returns
returns c = rw (← c.self.view_is) (omega (arith, c.saturating_add.ensures, c.memory-calls.ensures, c.memory.ensures))
