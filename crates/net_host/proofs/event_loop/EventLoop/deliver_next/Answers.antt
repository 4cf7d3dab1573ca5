use Rattle.std.proofs.Common.{ap, refl, subst}
use Rattle.net_host.specs.Floor.{Turns, floor_of, rests}
use Rattle.net_host.proofs.event_loop.EventLoop.deliver_next.Goals as goal

pub returns-in_err-reserve-clause-turns : goal.returns-in_err-reserve-clause-turns
returns-in_err-reserve-clause-turns g c = rests (record { same = λ key. refl; ended = c.reserve.ensures.items; budget = refl; letters = refl; due = refl })

pub returns-in_err-reserve-2-clause-turns : goal.returns-in_err-reserve-2-clause-turns
returns-in_err-reserve-2-clause-turns g c = rests (record { same = λ key. refl; ended = c.reserve.ensures.items; budget = refl; letters = refl; due = refl })

pub returns-clause-turns : goal.returns-clause-turns
returns-clause-turns g c =
    subst (λ f. Turns g.S.DrivenSession.table f (floor_of g.S.DrivenSession.state g.D.Socket.flow c.deliver_first.new.self)) (ap (λ e. record (floor_of g.S.DrivenSession.state g.D.Socket.flow c.args.self.now) { ended = e }) c.reserve.ensures.items) c.deliver_first.ensures.turns
