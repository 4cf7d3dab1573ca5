use Rattle.std.proofs.Common.{Some, ap, ◌∙◌}
use Rattle.cp_vat_state.specs.Paths.{fields_of, by_fields}
use Rattle.cp_vat_state.proofs.Fields.{get-by_fields, find-lookup, by_fields-set}
use Rattle.cp_tables.proofs.TableLemmas.{IsSome-lent}
use Rattle.cp_vat_state.proofs.paths.Paths.set.Goals as goal

pub unwrap-mark-requires : goal.unwrap-mark-requires
unwrap-mark-requires c =
    IsSome-lent c.get_mut.result (rw (← c.self.view_is, get-by_fields fields_of c.self.inside.marks.entries c.args.path.now, find-lookup fields_of c.args.path.now c.self.inside.marks.entries, ← c.get_mut.ensures.value) at c.requires)

pub returns : goal.returns
returns c =
    let there = rw (← c.self.view_is, get-by_fields fields_of c.self.inside.marks.entries c.args.path.now, find-lookup fields_of c.args.path.now c.self.inside.marks.entries) at c.requires in
    rw (← c.self.view_is) (ap (by_fields fields_of) (c.get_mut.follows.holds (Some c.args.embargo)).0 ∙ by_fields-set fields_of c.args.path.now (Some c.args.embargo) c.self.inside.marks.entries there)
