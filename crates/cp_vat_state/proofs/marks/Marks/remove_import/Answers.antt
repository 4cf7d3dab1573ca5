use Rattle.cp_vat_state.proofs.Under.{under-import-gone}
use Rattle.cp_vat_state.proofs.marks.Marks.remove_import.Goals as goal

pub invariant_of-self : goal.invariant_of-self
invariant_of-self c = rw c.remove.ensures.removed (under-import-gone c.self.inside.imports c.self.inside.paths c.self.inside.embargoes c.self.inside.references c.self.invariant c.args.id)
