use Rattle.std.proofs.Common.{refl, sym, ap, ◌∙◌}
use Rattle.std.specs.FinMap.{values}
use Rattle.cp_tables.specs.Table.{Table}
use Rattle.cp_tables.proofs.TableLemmas.{get-listed, listed, listed-insert}
use Rattle.cp_objects.specs.declared.shared_cap.LentCap.{LentCap}
use Rattle.cp_objects.specs.Lending.{imports_in}
use Rattle.cp_objects.proofs.Counting.{are_counts_as, lent_again, lent_back, lent_new}
use Rattle.cp_objects.proofs.lent.Lent.put.Goals as goal

pub invariant_of-self-in-Ok-Some : goal.invariant_of-self-in-Ok-Some
invariant_of-self-in-Ok-Some c =
    let caps = c.self.inside.caps in
    let was = get-listed caps c.args.shared.key ∙ sym (rw c.key.ensures at c.in-Ok-Some.ensures.old) ∙ c.in-Ok-Some.field-0-is in
    are_counts_as _ _ _ _ (rw (c.lower.ensures, c.cap-in-Ok-Some.ensures, c.in_default.ensures.raised, c.cap.ensures) refl)
    (ap (λ (m : Table LentCap). imports_in (values m)) (listed-insert caps c.insert.new.self c.args.shared.key c.args.shared (rw c.key.ensures at c.in-Ok-Some.ensures.updates)))
    (lent_again c.self.inside.imports.counts (listed caps) c.args.shared.key c.args.shared c.self.invariant c.in-Ok-Some.before was)

pub invariant_of-self-in-Ok-None : goal.invariant_of-self-in-Ok-None
invariant_of-self-in-Ok-None c =
    let caps = c.self.inside.caps in
    let was = get-listed caps c.args.shared.key ∙ sym (rw c.key.ensures at c.in-Ok-None.ensures.old) ∙ c.in-Ok-None.field-0-is in
    are_counts_as _ _ _ _ (rw (c.in_default.ensures.raised, c.cap.ensures) refl)
    (ap (λ (m : Table LentCap). imports_in (values m)) (listed-insert caps c.insert.new.self c.args.shared.key c.args.shared (rw c.key.ensures at c.in-Ok-None.ensures.updates)))
    (lent_new c.self.inside.imports.counts (listed caps) c.args.shared.key c.args.shared c.self.invariant was)

pub invariant_of-self-in-Err-insert : goal.invariant_of-self-in-Err-insert
invariant_of-self-in-Err-insert c =
    are_counts_as _ _ _ _ (rw (c.lower-in-Err-insert.ensures, c.cap-in-Err-insert.ensures, c.in-Err-insert.ensures.value_returned, c.in_default.ensures.raised, c.cap.ensures) refl)
    (rw c.in-Err-insert.ensures.err refl)
    (lent_back c.self.inside.imports.counts (listed c.self.inside.caps) c.args.shared.key c.args.shared c.self.invariant)

pub returns-in-Ok-Some : goal.returns-in-Ok-Some
returns-in-Ok-Some c = rw (← c.self.view_is) (listed-insert c.self.inside.caps c.insert.new.self c.args.shared.key c.args.shared (rw c.key.ensures at c.in-Ok-Some.ensures.updates))

pub returns-in-Ok-None : goal.returns-in-Ok-None
returns-in-Ok-None c = rw (← c.self.view_is) (listed-insert c.self.inside.caps c.insert.new.self c.args.shared.key c.args.shared (rw c.key.ensures at c.in-Ok-None.ensures.updates))
