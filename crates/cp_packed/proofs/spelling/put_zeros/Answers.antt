use Rattle.cp_packed.proofs.Putting.{two_put}
use Rattle.cp_packed.proofs.spelling.put_zeros.Goals as goal

pub returns-clause-text : goal.returns-clause-text
returns-clause-text c = two_put c.args.more c.args.block.now c.requires.room
