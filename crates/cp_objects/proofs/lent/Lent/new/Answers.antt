use Rattle.std.proofs.Common.{ℕ, List, ap, ◌∙◌}
use Rattle.std.specs.Ordering.{nat_cmp}
use Rattle.std.specs.FinMap.{from_entries, values}
use Rattle.cp_objects.specs.declared.shared_cap.LentCap.{LentCap}
use Rattle.cp_objects.specs.Lending.{imports_in}
use Rattle.cp_objects.proofs.Counting.{are_counts_as, no_counts, no_values}
use Rattle.cp_objects.proofs.lent.Lent.new.Goals as goal

pub invariant_of-result : goal.invariant_of-result
invariant_of-result c =
    are_counts_as _ _ _ _ c.new-2.ensures
    (ap (λ (es : List (ℕ × LentCap)). imports_in (values (from_entries {R = nat_cmp} es))) c.new.ensures.empty ∙ ap imports_in no_values) no_counts
