use Rattle.cp_vat_pair_laws.proofs.numbers.Left.{exported_is_held, nothing_is_left, left_is_named}
use Rattle.cp_vat_pair_laws.proofs.export_numbers.nothing_is_left.Goals as goal

pub returns-clause-held : goal.returns-clause-held
returns-clause-held c = exported_is_held

pub returns-clause-empty : goal.returns-clause-empty
returns-clause-empty c = nothing_is_left

pub returns-clause-named : goal.returns-clause-named
returns-clause-named c = left_is_named
