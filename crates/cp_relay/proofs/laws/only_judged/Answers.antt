use Rattle.cp_relay.proofs.Traffic.{only_judged as judged_alone, nothing_after}
use Rattle.cp_relay.proofs.laws.only_judged.Goals as goal

pub returns-clause-judged : goal.returns-clause-judged
returns-clause-judged c = judged_alone

pub returns-clause-over : goal.returns-clause-over
returns-clause-over c = nothing_after
