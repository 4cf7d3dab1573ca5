use Rattle.cp_vat_laws.proofs.within.Leave.{turn_keeps, leaves_local}
use Rattle.cp_vat_laws.proofs.invariant.turns_keep.Goals as goal

pub returns-clause-turns : goal.returns-clause-turns
returns-clause-turns c = turn_keeps

pub returns-clause-leave : goal.returns-clause-leave
returns-clause-leave c = leaves_local
