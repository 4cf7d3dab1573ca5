use Rattle.std.proofs.Common.{ℕ, List, refl, sym, ap, ◌∙◌}
use Rattle.std.specs.FinMap.{values}
use Rattle.cp_tables.specs.Table.{Table}
use Rattle.cp_tables.proofs.TableLemmas.{get-listed, listed, listed-insert}
use Rattle.cp_objects.specs.Numbers.{joined_lists}
use Rattle.cp_objects.proofs.Counting.{are_counts_as, named_again, named_new}
use Rattle.cp_objects.proofs.param_caps.ParamCaps.put.Goals as goal

pub invariant_of-self-in-Ok-Some : goal.invariant_of-self-in-Ok-Some
invariant_of-self-in-Ok-Some c =
    let named = c.self.inside.named in
    let was = get-listed named c.args.ticket ∙ sym c.in-Ok-Some.ensures.old ∙ c.in-Ok-Some.field-0-is in
    let raised = rw c.numbers.ensures at (c.in_default.ensures.raised _ c.self.invariant) in
    are_counts_as _ _ _ _ refl
    (ap (λ (m : Table (List ℕ)). joined_lists (values m)) (listed-insert named c.insert.new.self c.args.ticket c.args.named c.in-Ok-Some.ensures.updates))
    (c.lower_each.ensures _ (rw c.numbers-in-Ok-Some.ensures (named_again _ (listed named) c.args.ticket c.args.named c.in-Ok-Some.before was raised)))

pub invariant_of-self-in-Ok-None : goal.invariant_of-self-in-Ok-None
invariant_of-self-in-Ok-None c =
    let named = c.self.inside.named in
    let was = get-listed named c.args.ticket ∙ sym c.in-Ok-None.ensures.old ∙ c.in-Ok-None.field-0-is in
    let raised = rw c.numbers.ensures at (c.in_default.ensures.raised _ c.self.invariant) in
    are_counts_as _ _ _ _ refl
    (ap (λ (m : Table (List ℕ)). joined_lists (values m)) (listed-insert named c.insert.new.self c.args.ticket c.args.named c.in-Ok-None.ensures.updates))
    (named_new _ (listed named) c.args.ticket c.args.named was raised)

pub returns-in-Ok-Some : goal.returns-in-Ok-Some
returns-in-Ok-Some c = rw (← c.self.view_is) (listed-insert c.self.inside.named c.insert.new.self c.args.ticket c.args.named c.in-Ok-Some.ensures.updates)

pub returns-in-Ok-None : goal.returns-in-Ok-None
returns-in-Ok-None c = rw (← c.self.view_is) (listed-insert c.self.inside.named c.insert.new.self c.args.ticket c.args.named c.in-Ok-None.ensures.updates)
