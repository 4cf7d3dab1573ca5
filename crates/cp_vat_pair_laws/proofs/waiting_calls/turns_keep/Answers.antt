use Rattle.cp_vat_pair_laws.proofs.waiting.Settle.{settling_keeps}
use Rattle.cp_vat_pair_laws.proofs.waiting.Tied.{tied_are_open}
use Rattle.cp_vat_pair_laws.proofs.waiting.Turn.{turn_keeps}
use Rattle.cp_vat_pair_laws.proofs.waiting_calls.turns_keep.Goals as goal

pub returns-clause-settling : goal.returns-clause-settling
returns-clause-settling c = settling_keeps

pub returns-clause-tied : goal.returns-clause-tied
returns-clause-tied c = tied_are_open

pub returns-clause-turns : goal.returns-clause-turns
returns-clause-turns c = turn_keeps
