use Rattle.cp_vat_pair_laws.proofs.numbers.Moves.{numbers_stay, free_is_free}
use Rattle.cp_vat_pair_laws.proofs.export_numbers.numbers_stay.Goals as goal

pub returns-clause-stay : goal.returns-clause-stay
returns-clause-stay c = numbers_stay

pub returns-clause-free : goal.returns-clause-free
returns-clause-free c = free_is_free
