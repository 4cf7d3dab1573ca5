use Rattle.cp_vat_laws.proofs.within.Between.{local_is_within, within_is_local}
use Rattle.cp_vat_laws.proofs.invariant.local_is_within.Goals as goal

pub returns-clause-within : goal.returns-clause-within
returns-clause-within c = local_is_within

pub returns-clause-between : goal.returns-clause-between
returns-clause-between c = within_is_local
