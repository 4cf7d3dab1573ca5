use Rattle.std.proofs.Common.{ℕ, List, length, ap, arith}
use Rattle.cp_writing.proofs.Blocks.{length_block}
use Rattle.cp_writing.proofs.block.Block.len.Goals as goal

pub returns : goal.returns
returns c = omega (arith, length_block c.self.inside.bytes.items c.self.invariant, c.len.ensures, ap (λ (ws : List ℕ). length ws) c.self.view_is)
