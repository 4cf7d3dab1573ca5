use Rattle.cp_relay.proofs.Once.{answered_once as once, drops_finishes, remembers as kept}
use Rattle.cp_relay.proofs.laws.answered_once.Goals as goal

pub returns-clause-answers : goal.returns-clause-answers
returns-clause-answers c = once

pub returns-clause-drops : goal.returns-clause-drops
returns-clause-drops c = drops_finishes

pub returns-clause-remembers : goal.returns-clause-remembers
returns-clause-remembers c = kept
