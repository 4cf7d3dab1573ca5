-- The capabilities of an outcome are its table.
use Rattle.std.proofs.Common.{◌≡◌, refl}
use Rattle.cp_refs.specs.Kept.{table_of}
use Rattle.cp_refs.specs.declared.outcome.Outcome.{Outcome}
use Rattle.cp_refs.specs.declared.outcome.Outcome.TheVariants as outcomes
use Rattle.cp_vat_machine.specs.InUse.{caps_of}

pub caps_in_table : (outcome : Outcome) → table_of outcome ≡ caps_of outcome
caps_in_table (outcomes.Results content table) = refl
caps_in_table (outcomes.Failed exception) = refl
caps_in_table outcomes.Canceled = refl
