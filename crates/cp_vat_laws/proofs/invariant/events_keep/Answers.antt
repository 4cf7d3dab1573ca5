use Rattle.cp_vat_laws.proofs.within.Step.{does_within, receives_within}
use Rattle.cp_vat_laws.proofs.invariant.events_keep.Goals as goal

pub returns-clause-does : goal.returns-clause-does
returns-clause-does c = does_within

pub returns-clause-receives : goal.returns-clause-receives
returns-clause-receives c = receives_within
