use Rattle.cp_refs.proofs.Keeping.{pointers_give}
use Rattle.cp_refs.proofs.kept_outcome.pointers_in.Goals as goal

pub returns-clause-gives : goal.returns-clause-gives
returns-clause-gives c path = rw (c.in_ok-pointers.ensures, c.tree.ensures.tree) (pointers_give c.args.caps.now c.args.content.now path)
