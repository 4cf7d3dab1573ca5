use Rattle.cp_tables.specs.declared.TheConstants.{LIMIT}
use Rattle.cp_tables.proofs.TableLemmas.{few-remove}
use Rattle.cp_tables.proofs.answers.Answers.close.Goals as goal

pub invariant_of-self : goal.invariant_of-self
invariant_of-self g c = rw c.remove.ensures.removed (few-remove c.self.inside.entries c.args.id LIMIT c.self.invariant)
