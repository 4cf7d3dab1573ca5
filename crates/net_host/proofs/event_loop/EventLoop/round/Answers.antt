use Rattle.std.proofs.Common.{arith}
use Rattle.net_host.proofs.Floors.{rounds_both}
use Rattle.net_host.specs.Floor.{begins, turns}
use Rattle.net_host.proofs.event_loop.EventLoop.round.Goals as goal

pub loop-init : goal.loop-init
loop-init g c = record { no_more = omega arith; turns = begins }

pub loop-preserved : goal.loop-preserved
loop-preserved g c = record { no_more = omega arith; turns = turns c.loop.invariant.turns c.turn.ensures.turns }

pub returns-in_err-turn-clause-turns : goal.returns-in_err-turn-clause-turns
returns-in_err-turn-clause-turns g c = turns c.loop.invariant.turns c.turn.ensures.turns

pub returns-clause-turns : goal.returns-clause-turns
returns-clause-turns g c = turns (rounds_both c.loop.invariant.turns c.in_ok-deliver_each.ensures.turns) c.sweep.ensures.turns

pub returns-in_err-deliver_each-clause-turns : goal.returns-in_err-deliver_each-clause-turns
returns-in_err-deliver_each-clause-turns g c = rounds_both c.loop.invariant.turns c.deliver_each.ensures.turns
