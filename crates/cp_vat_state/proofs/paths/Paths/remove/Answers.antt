use Rattle.std.proofs.Common.{sym, ap, ◌∙◌}
use Rattle.cp_vat_state.specs.Paths.{fields_of, by_fields}
use Rattle.cp_vat_state.proofs.Fields.{get-by_fields, find-lookup, by_fields-remove}
use Rattle.cp_vat_state.proofs.paths.Paths.remove.Goals as goal

pub returns-clause-value : goal.returns-clause-value
returns-clause-value c =
    rw (← c.self.view_is) (c.remove.ensures.value ∙ sym (get-by_fields fields_of c.self.inside.marks.entries c.args.path.now ∙ find-lookup fields_of c.args.path.now c.self.inside.marks.entries))

pub returns-clause-removed : goal.returns-clause-removed
returns-clause-removed c =
    rw (← c.self.view_is) (ap (by_fields fields_of) c.remove.ensures.entries ∙ by_fields-remove fields_of c.args.path.now c.self.inside.marks.entries c.self.invariant)
