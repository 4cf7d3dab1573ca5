use Rattle.std.proofs.Common.{◌∙◌}
use Rattle.std.specs.FinMap.{empty}
use Rattle.cp_tables.proofs.TableLemmas.{seen-empty}
use Rattle.cp_tables.proofs.PlacedLemmas.{IsPlaced-as, IsPlaced-empty, placed-as, placed-empty}
use Rattle.cp_tables.proofs.placed.Placed.new.Goals as goal

pub invariant_of-result : goal.invariant_of-result
invariant_of-result g c = IsPlaced-as _ _ _ _ _ c.new.ensures (seen-empty c.new-2.result c.new-2.ensures.empty) IsPlaced-empty

pub returns : goal.returns
returns g c = placed-as _ _ _ _ c.new.ensures (seen-empty c.new-2.result c.new-2.ensures.empty) ∙ placed-empty empty
