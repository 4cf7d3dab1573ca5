use Rattle.std.proofs.Common.{sym, ◌∙◌}
use Rattle.cp_vat_state.specs.Paths.{fields_of}
use Rattle.cp_vat_state.proofs.Fields.{len-by_fields}
use Rattle.cp_vat_state.proofs.paths.Paths.len.Goals as goal

pub returns : goal.returns
returns c = rw (← c.self.view_is) (c.len.ensures.len ∙ sym (len-by_fields fields_of c.self.inside.marks.entries c.self.invariant))
