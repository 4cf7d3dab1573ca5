use Rattle.std.proofs.Common.{arith}
use Rattle.cp_vat_state.proofs.resolutions.Resolutions.memory.Goals as goal

pub returns : goal.returns
returns c = rw (← c.self.view_is) (omega (arith, c.saturating_add.ensures, c.self.invariant.0.kept_bytes, c.self.invariant.0.imported_bytes))
