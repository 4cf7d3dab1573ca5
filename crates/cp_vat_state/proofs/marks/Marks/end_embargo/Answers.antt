use Rattle.std.proofs.Common.{Some, sym, ap, ◌∙◌}
use Rattle.std.specs.FinMap as map
use Rattle.cp_vat_state.proofs.Under.{import-left, path-left, none-left, under-left, same_parts}
use Rattle.cp_vat_state.proofs.marks.Marks.end_embargo.Goals as goal

pub invariant_of-self-in-Some-Import : goal.invariant_of-self-in-Some-Import
invariant_of-self-in-Some-Import c =
    rw (c.unmark_import.ensures, c.in-Ok.ensures.closed, c.remove.ensures.removed)
    (under-left c.self.inside.imports c.self.inside.paths c.self.inside.embargoes c.self.inside.references c.self.invariant c.args.id _ _ (import-left c.self.inside.imports c.self.inside.paths c.self.inside.embargoes c.self.inside.references c.self.invariant c.args.id c.in-Some-Import.import (ap (λ r. Some r) (sym c.in-Some-Import.field-0-is) ∙ c.in-Some-Import.ensures.value)))

pub invariant_of-self-in-Some-Path : goal.invariant_of-self-in-Some-Path
invariant_of-self-in-Some-Path c =
    rw (c.unmark_path.ensures, c.fields.ensures, c.in-Ok.ensures.closed, c.remove.ensures.removed)
    (under-left c.self.inside.imports c.self.inside.paths c.self.inside.embargoes c.self.inside.references c.self.invariant c.args.id _ _ (path-left c.self.inside.imports c.self.inside.paths c.self.inside.embargoes c.self.inside.references c.self.invariant c.args.id c.in-Some-Path.question c.in-Some-Path.path (ap (λ r. Some r) (sym c.in-Some-Path.field-0-is) ∙ c.in-Some-Path.ensures.value)))

pub invariant_of-self-in-None : goal.invariant_of-self-in-None
invariant_of-self-in-None c =
    rw (c.in-Ok.ensures.closed, c.remove.ensures.removed)
    (under-left c.self.inside.imports c.self.inside.paths c.self.inside.embargoes c.self.inside.references c.self.invariant c.args.id _ _ (none-left c.self.inside.imports c.self.inside.paths c.self.inside.embargoes c.self.inside.references c.self.invariant c.args.id c.in-None.ensures.value))

pub returns-in-Some-Import-clause-ended : goal.returns-in-Some-Import-clause-ended
returns-in-Some-Import-clause-ended c =
    rw (← c.self.view_is, c.unmark_import.ensures, c.in-Ok.ensures.closed)
    (same_parts _ _ _ _ (map.remove c.self.inside.embargoes c.args.id) (import-left c.self.inside.imports c.self.inside.paths c.self.inside.embargoes c.self.inside.references c.self.invariant c.args.id c.in-Some-Import.import (ap (λ r. Some r) (sym c.in-Some-Import.field-0-is) ∙ c.in-Some-Import.ensures.value)))

pub returns-in-Some-Path-clause-ended : goal.returns-in-Some-Path-clause-ended
returns-in-Some-Path-clause-ended c =
    rw (← c.self.view_is, c.unmark_path.ensures, c.fields.ensures, c.in-Ok.ensures.closed)
    (same_parts _ _ _ _ (map.remove c.self.inside.embargoes c.args.id) (path-left c.self.inside.imports c.self.inside.paths c.self.inside.embargoes c.self.inside.references c.self.invariant c.args.id c.in-Some-Path.question c.in-Some-Path.path (ap (λ r. Some r) (sym c.in-Some-Path.field-0-is) ∙ c.in-Some-Path.ensures.value)))

pub returns-in-None-clause-ended : goal.returns-in-None-clause-ended
returns-in-None-clause-ended c =
    rw (← c.self.view_is, c.in-Ok.ensures.closed)
    (same_parts _ _ _ _ (map.remove c.self.inside.embargoes c.args.id) (none-left c.self.inside.imports c.self.inside.paths c.self.inside.embargoes c.self.inside.references c.self.invariant c.args.id c.in-None.ensures.value))
