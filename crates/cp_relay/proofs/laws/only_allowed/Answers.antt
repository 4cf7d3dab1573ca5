use Rattle.cp_relay.proofs.Allowed.{only_allowed as nothing_else, allowed_pass}
use Rattle.cp_relay.proofs.laws.only_allowed.Goals as goal

pub returns-clause-only : goal.returns-clause-only
returns-clause-only c = nothing_else

pub returns-clause-pass : goal.returns-clause-pass
returns-clause-pass c = allowed_pass
