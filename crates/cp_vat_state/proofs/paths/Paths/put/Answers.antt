use Rattle.std.proofs.Common.{ap, ◌∙◌}
use Rattle.cp_vat_state.specs.Paths.{fields_of, by_fields}
use Rattle.cp_vat_state.proofs.Fields.{by_fields-insert}
use Rattle.cp_vat_state.proofs.paths.Paths.put.Goals as goal

pub returns-clause-put : goal.returns-clause-put
returns-clause-put c =
    rw (← c.self.view_is) (ap (by_fields fields_of) c.in_ok-insert.ensures.entries ∙ by_fields-insert fields_of c.self.inside.marks.entries c.args.path c.args.embargo)
