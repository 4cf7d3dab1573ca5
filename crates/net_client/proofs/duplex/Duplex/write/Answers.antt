use Rattle.net_client.proofs.Passing.{at_error, passes_both, sends_after, waits_none}
use Rattle.net_client.proofs.duplex.Duplex.write.Goals as goal

pub loop-init : goal.loop-init
loop-init g c = waits_none _

pub returns-in_err-count-clause-sends_none : goal.returns-in_err-count-clause-sends_none
returns-in_err-count-clause-sends_none g c = at_error c.from_residual.result (passes_both c.loop.invariant c.in_err-count.ensures.sends_none)

pub returns-in-Some-clause-sends : goal.returns-in-Some-clause-sends
returns-in-Some-clause-sends g c = sends_after c.loop.invariant (rw c.in-Some.is at c.in_ok-count.ensures.sends)

pub loop-preserved : goal.loop-preserved
loop-preserved g c = passes_both c.loop.invariant (rw c.in_default.is at c.in_ok-count.ensures.waits)
