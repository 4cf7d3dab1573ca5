use Rattle.std.proofs.Common.{◌∙◌, ◌∷◌, ◌++◌, [], ap, refl, sym}
use Rattle.std.specs.Option.{option_map}
use Rattle.cp_session.specs.Progress.{earlier}
use Rattle.net_host.proofs.Floors.{as_many, ended_as, seen_taken, seen_written}
use Rattle.net_host.specs.Floor.{ends, goes_on, rests}
use Rattle.net_host.specs.HostedConnections.{served_of}
use Rattle.net_host.proofs.event_loop.EventLoop.turn.Goals as goal

pub returns-in_err-reserve-clause-turns : goal.returns-in_err-reserve-clause-turns
returns-in_err-reserve-clause-turns g c = rests (record { same = λ key. refl; ended = c.reserve.ensures.items; budget = refl; letters = refl; due = refl })

pub returns-in_default-clause-turns : goal.returns-in_default-clause-turns
returns-in_default-clause-turns g c = rests (record { same = λ key. refl; ended = c.reserve.ensures.items; budget = refl; letters = refl; due = refl })

pub returns-in_default-get_mut-clause-turns : goal.returns-in_default-get_mut-clause-turns
returns-in_default-get_mut-clause-turns g c = rests (record { same = λ key. refl; ended = c.reserve.ensures.items; budget = refl; letters = refl; due = refl })

pub returns-in-More-clause-turns : goal.returns-in-More-clause-turns
returns-in-More-clause-turns g c =
    let visits = rw (c.allowed.ensures, c.number_of-account.ensures, c.now.ensures) at c.in-More.ensures.visits in
    goes_on c.in-Some.key (served_of g.S.DrivenSession.state g.D.Socket.flow c.in-Some-get_mut.hosted.now) (served_of g.S.DrivenSession.state g.D.Socket.flow c.turn.new.self) visits.0 (sym (ap (λ o. option_map (served_of g.S.DrivenSession.state g.D.Socket.flow) o) c.in-Some-get_mut.ensures.value)) visits.2
    (seen_written g.S.DrivenSession.state g.D.Socket.flow c.args.self.now.guests _ c.in-Some-get_mut.hosted.now c.turn.new.self c.in-Some-get_mut.ensures.value) c.reserve.ensures.items
    (rw (← c.number_of-account.ensures) c.in-More.ensures.accounts) visits.1
    (ap (λ t. t.sweep_at) c.expect.ensures ∙ ap (λ d. earlier c.args.self.now.time.sweep_at d) c.deadline.ensures)

pub returns-in-Waits-clause-turns : goal.returns-in-Waits-clause-turns
returns-in-Waits-clause-turns g c =
    let visits = rw (c.allowed.ensures, c.number_of-account.ensures, c.now.ensures) at c.in-Waits.ensures.visits in
    goes_on c.in-Some.key (served_of g.S.DrivenSession.state g.D.Socket.flow c.in-Some-get_mut.hosted.now) (served_of g.S.DrivenSession.state g.D.Socket.flow c.turn.new.self) visits.0 (sym (ap (λ o. option_map (served_of g.S.DrivenSession.state g.D.Socket.flow) o) c.in-Some-get_mut.ensures.value)) visits.2
    (seen_written g.S.DrivenSession.state g.D.Socket.flow c.args.self.now.guests _ c.in-Some-get_mut.hosted.now c.turn.new.self c.in-Some-get_mut.ensures.value) c.reserve.ensures.items
    (rw (← c.number_of-account.ensures) c.in-Waits.ensures.accounts) visits.1
    (ap (λ t. t.sweep_at) c.expect-in-Waits.ensures ∙ ap (λ d. earlier c.args.self.now.time.sweep_at d) c.deadline-in-Waits.ensures)

pub returns-in-Over-clause-turns : goal.returns-in-Over-clause-turns
returns-in-Over-clause-turns g c =
    let over = rw (c.allowed.ensures, c.number_of-account.ensures, c.now.ensures) at c.in-Over.ensures.visits in
    let is = ended_as c.ended-ended.result _ _ _ _ c.in-Over.end _ _ c.ended-ended.ensures over.2.0 over.2.1 over.2.4 in
    ends c.in-Some.key (served_of g.S.DrivenSession.state g.D.Socket.flow c.in-Some-get_mut.hosted.now) over.2.2 over.0 c.in-Over.end (sym (ap (λ o. option_map (served_of g.S.DrivenSession.state g.D.Socket.flow) o) c.in-Some-get_mut.ensures.value)) over.2.3
    (seen_taken g.S.DrivenSession.state g.D.Socket.flow c.args.self.now.guests c.close.new.self.guests _ c.in-Some-get_mut.hosted.now c.turn.new.self c.in-Some-get_mut.ensures.value c.close.ensures.updates)
    (rw c.reserve.ensures.items at (c.close.ensures.ended ∙ ap (λ x. c.reserve.new.self.items ++ x ∷ []) is))
    (rw (← c.number_of-account.ensures) (c.close.ensures.budget ∙ c.in-Over.ensures.accounts)) (ap (λ w. w.items) c.close.ensures.letters ∙ over.1) (ap (λ t. t.sweep_at) c.close.ensures.time)

pub returns-in-More-clause-len : goal.returns-in-More-clause-len
returns-in-More-clause-len g c = as_many c.args.self.now.guests c.in-Some.key c.in-Some-get_mut.hosted.now c.turn.new.self c.in-Some-get_mut.ensures.value

pub returns-in-Waits-clause-len : goal.returns-in-Waits-clause-len
returns-in-Waits-clause-len g c = as_many c.args.self.now.guests c.in-Some.key c.in-Some-get_mut.hosted.now c.turn.new.self c.in-Some-get_mut.ensures.value
