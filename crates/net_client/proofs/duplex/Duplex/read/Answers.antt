use Rattle.std.proofs.Common.{refl}
use Rattle.net_client.proofs.Passing.{at_error, none_left, passes_both, passes_given, waits_none}
use Rattle.net_client.proofs.duplex.Duplex.read.Goals as goal

pub returns-then-len-gt0-clause-gives : goal.returns-then-len-gt0-clause-gives
returns-then-len-gt0-clause-gives g c = passes_given refl c.give.ensures.gives

pub loop-init : goal.loop-init
loop-init g c = (none_left _ _ c.len.ensures c.if-len-gt0.false, waits_none _)

pub returns-in_err-count-clause-gives_none : goal.returns-in_err-count-clause-gives_none
returns-in_err-count-clause-gives_none g c = at_error c.from_residual.result (passes_both c.loop.invariant.1 c.in_err-count.ensures.gives_none)

pub returns-in-Some-clause-gives : goal.returns-in-Some-clause-gives
returns-in-Some-clause-gives g c = passes_both c.loop.invariant.1 (rw c.in-Some.is at c.in_ok-count.ensures.gives)

pub loop-preserved : goal.loop-preserved
loop-preserved g c = (c.in_ok-count.ensures.none_ahead, passes_both c.loop.invariant.1 (rw c.in_default.is at c.in_ok-count.ensures.waits))
