use Rattle.std.proofs.Common.{refl}
use Rattle.cp_connection.proofs.Keeping.{new_came, new_goes}
use Rattle.cp_connection.proofs.parts.Parts.new.Goals as goal

pub returns-clause-keeps : goal.returns-clause-keeps
returns-clause-keeps c = λ is. new_goes _ c.args.mode c.args.limits c.new.ensures.fresh c.new-3.ensures.same_mode refl refl tt

pub returns-clause-came : goal.returns-clause-came
returns-clause-came c = new_came c.new.result c.new-3.result.mode c.args.mode c.args.limits c.new.ensures.fresh c.new-3.ensures.same_mode
