use Rattle.std.proofs.Common.{arith}
use Rattle.net_host.specs.Floor.{begins, turns}
use Rattle.net_host.proofs.event_loop.EventLoop.deliver_each.Goals as goal

pub loop-init : goal.loop-init
loop-init g c = record { no_more = omega arith; turns = begins }

pub loop-preserved : goal.loop-preserved
loop-preserved g c = record { no_more = omega arith; turns = turns c.loop.invariant.turns c.deliver_next.ensures.turns }

pub returns-in_err-deliver_next-clause-turns : goal.returns-in_err-deliver_next-clause-turns
returns-in_err-deliver_next-clause-turns g c = turns c.loop.invariant.turns c.deliver_next.ensures.turns
