use Rattle.cp_tables.specs.declared.TheConstants.{LIMIT}
use Rattle.cp_tables.proofs.TableLemmas.{few-insert_held}
use Rattle.cp_tables.proofs.answers.Answers.kept_mut.Goals as goal

-- whatever is kept with it, there are as many
pub invariant_of-self-lent : goal.invariant_of-self-lent
invariant_of-self-lent g c = λ w. few-insert_held c.self.inside.entries c.args.id LIMIT c.in-Some.entry.now _ c.in-Some.ensures.value c.self.invariant
