use Rattle.cp_reading.proofs.Nears.{near_list}
use Rattle.cp_reading.proofs.near.list_target.Goals as goal

pub returns-clause-near : goal.returns-clause-near
returns-clause-near c = rw (c.size_of.ensures, c.near_start.ensures) (near_list c.args.at c.args.word c.requires.kind)
