use Rattle.std.proofs.Common.{arith}
use Rattle.cp_connection.proofs.Contents.{same_contents}
use Rattle.cp_connection.proofs.parts.Parts.contents.Goals as goal

pub returns : goal.returns
returns c = omega (arith, c.saturating_add.ensures, c.contents.ensures, c.tails_memory.ensures, same_contents c.args.self.now.is_lost c.args.self.now.vat)
