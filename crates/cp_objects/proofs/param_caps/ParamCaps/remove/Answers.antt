use Rattle.std.proofs.Common.{ℕ, List, refl, sym, ap, ◌∙◌}
use Rattle.std.specs.FinMap.{values}
use Rattle.cp_tables.specs.Table.{Table}
use Rattle.cp_tables.proofs.TableLemmas.{get-listed, listed, listed-remove}
use Rattle.cp_objects.specs.Numbers.{joined_lists}
use Rattle.cp_objects.proofs.Counting.{are_counts_as, unnamed_none, unnamed_some}
use Rattle.cp_objects.proofs.param_caps.ParamCaps.remove.Goals as goal

pub invariant_of-self : goal.invariant_of-self
invariant_of-self c =
    let named = c.self.inside.named in
    let left = unnamed_some c.self.inside.counts.counts (listed named) c.args.ticket c.in-Some.named (get-listed named c.args.ticket ∙ sym c.in-Some.ensures.value) c.self.invariant in
    are_counts_as _ _ _ _ refl
    (ap (λ (m : Table (List ℕ)). joined_lists (values m)) (listed-remove named c.remove.new.self c.args.ticket c.remove.ensures.updates))
    (c.lower_each.ensures _ (rw c.numbers.ensures left))

pub invariant_of-self-in_default : goal.invariant_of-self-in_default
invariant_of-self-in_default c =
    let named = c.self.inside.named in
    are_counts_as _ _ _ _ refl
    (ap (λ (m : Table (List ℕ)). joined_lists (values m)) (listed-remove named c.remove.new.self c.args.ticket c.remove.ensures.updates))
    (unnamed_none c.self.inside.counts.counts (listed named) c.args.ticket (get-listed named c.args.ticket ∙ sym c.in_default.ensures.value) c.self.invariant)

pub returns-in-Some : goal.returns-in-Some
returns-in-Some c = rw (← c.self.view_is) (listed-remove c.self.inside.named c.remove.new.self c.args.ticket c.remove.ensures.updates)

pub returns-in_default : goal.returns-in_default
returns-in_default c = rw (← c.self.view_is) (listed-remove c.self.inside.named c.remove.new.self c.args.ticket c.remove.ensures.updates)
