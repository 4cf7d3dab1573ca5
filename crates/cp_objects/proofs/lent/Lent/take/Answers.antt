use Rattle.std.proofs.Common.{refl, sym, ap, ◌∙◌}
use Rattle.std.specs.FinMap.{values}
use Rattle.cp_tables.specs.Table.{Table}
use Rattle.cp_tables.proofs.TableLemmas.{get-listed, listed, listed-remove}
use Rattle.cp_objects.specs.declared.shared_cap.LentCap.{LentCap}
use Rattle.cp_objects.specs.Lending.{imports_in}
use Rattle.cp_objects.proofs.Counting.{are_counts_as, unlent_some}
use Rattle.cp_objects.proofs.lent.Lent.take.Goals as goal

pub returns-in_err-shared-clause-taken : goal.returns-in_err-shared-clause-taken
returns-in_err-shared-clause-taken c = rw (← c.self.view_is, get-listed, ← c.in_err-shared.ensures.value) c.from_residual.ensures

pub returns-in_err-shared-clause-left : goal.returns-in_err-shared-clause-left
returns-in_err-shared-clause-left c = rw (← c.self.view_is) (listed-remove c.self.inside.caps c.remove.new.self c.args.key c.remove.ensures.updates)

pub invariant_of-self-2 : goal.invariant_of-self-2
invariant_of-self-2 c =
    let caps = c.self.inside.caps in
    are_counts_as _ _ _ _ (rw (c.lower.ensures, c.cap.ensures) refl)
    (ap (λ (m : Table LentCap). imports_in (values m)) (listed-remove caps c.remove.new.self c.args.key c.remove.ensures.updates))
    (unlent_some c.self.inside.imports.counts (listed caps) c.args.key c.self.invariant c.in_ok-shared.shared (get-listed caps c.args.key ∙ sym c.in_ok-shared.ensures.value))

pub returns-clause-taken : goal.returns-clause-taken
returns-clause-taken c = rw (← c.self.view_is, get-listed, ← c.in_ok-shared.ensures.value) refl

pub returns-clause-left : goal.returns-clause-left
returns-clause-left c = rw (← c.self.view_is) (listed-remove c.self.inside.caps c.remove.new.self c.args.key c.remove.ensures.updates)
