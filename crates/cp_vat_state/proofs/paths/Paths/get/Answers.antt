use Rattle.std.proofs.Common.{sym, ◌∙◌}
use Rattle.cp_vat_state.specs.Paths.{fields_of}
use Rattle.cp_vat_state.proofs.Fields.{get-by_fields, find-lookup}
use Rattle.cp_vat_state.proofs.paths.Paths.get.Goals as goal

pub returns : goal.returns
returns c =
    rw (← c.self.view_is) (c.copied.ensures ∙ c.get.ensures.value ∙ sym (get-by_fields fields_of c.self.inside.marks.entries c.args.path.now ∙ find-lookup fields_of c.args.path.now c.self.inside.marks.entries))
