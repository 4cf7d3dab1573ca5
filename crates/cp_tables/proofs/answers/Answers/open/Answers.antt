use Rattle.std.proofs.Common.{◌∙◌}
use Rattle.cp_tables.specs.declared.TheConstants.{LIMIT}
use Rattle.cp_tables.proofs.TableLemmas.{few-insert_new}
use Rattle.cp_tables.proofs.answers.Answers.open.Goals as goal

pub invariant_of-self : goal.invariant_of-self
invariant_of-self g c =
    rw c.in-Ok.ensures.put.1 (few-insert_new c.self.inside.entries c.args.id LIMIT _ c.in-Ok.ensures.put.0 (λ e. c.if-len-eq-LIMIT.false (c.len.ensures ∙ e)) c.self.invariant)
