use Rattle.cp_reading.proofs.Nears.{near_struct}
use Rattle.cp_reading.proofs.near.struct_target.Goals as goal

pub returns-clause-near : goal.returns-clause-near
returns-clause-near c = rw c.near_start.ensures (near_struct c.args.at c.args.word c.requires.some c.requires.kind)
