use Rattle.std.proofs.Common.{◌∙◌, ap, refl, subst, sym}
use Rattle.cp_session.specs.Doing.{due_of}
use Rattle.cp_session.specs.Progress.{earlier}
use Rattle.cp_session.specs.State.{new_state}
use Rattle.net_host.proofs.Floors.{kept_in_room, seats_in_room}
use Rattle.net_host.specs.HostedConnections.{new_served}
use Rattle.net_host.specs.Waking.{session_of}
use Rattle.net_host.proofs.event_loop.EventLoop.admit.Goals as goal

pub returns-in-Ok-clause-seats : goal.returns-in-Ok-clause-seats
returns-in-Ok-clause-seats g c =
    let now = c.now-now.result in
    let seated = c.begin-session.ensures.0 in
    let shows =
    c.new-hosted.ensures ∙ ap (λ s. new_served g.D.Socket.flow (record c.args.pending { stream = s }) (g.S.DrivenSession.state c.begin-session.result)) c.make_room.ensures.stream
    ∙ ap (λ s. new_served g.D.Socket.flow c.args.pending s) (c.begin-session.ensures.2 ∙ ap (λ o. new_state o seated now) c.session.ensures) in
    let number = c.session_number-number.ensures ∙ ap (λ key. session_of c.args.pending.number key) (c.in-Ok.ensures.key ∙ sym c.insert_reserved.ensures.key) in
    seats_in_room g.S.DrivenSession.state g.D.Socket.flow g.S.DrivenSession.table c.args.plan.now c.args.pending c.args.objects seated now c.args.self.now _ c.make_room.new.self.guests _ c.insert_reserved.result c.new-hosted.result
    c.make_room.ensures.same c.insert_reserved.ensures.was_vacant c.insert_reserved.ensures.updates shows refl (ap (λ d. d.items) c.make_room.ensures.ended) c.make_room.ensures.budget
    (ap (λ w. w.items) c.make_room.ensures.letters)
    (ap (λ t. t.sweep_at) c.expect.ensures ∙ ap (λ t. earlier t.sweep_at c.deadline.result) c.make_room.ensures.time
    ∙ ap (λ d. earlier c.args.self.now.time.sweep_at d) (c.deadline.ensures ∙ ap (λ x. due_of g.S.DrivenSession.table x.session) shows))
    (subst (λ s. g.S.DrivenSession.table.is_in s c.args.objects seated) number c.begin-session.ensures.1)
    (c.now-now.ensures ∙ ap (λ t. t.at) c.make_room.ensures.time)

pub returns-in-Err-clause-unseated : goal.returns-in-Err-clause-unseated
returns-in-Err-clause-unseated g c =
    record { same = kept_in_room g.S.DrivenSession.state g.D.Socket.flow c.args.self.now.guests c.make_room.new.self.guests c.make_room.ensures.same; ended = ap (λ d. d.items) c.make_room.ensures.ended; budget = c.make_room.ensures.budget; letters = ap (λ w. w.items) c.make_room.ensures.letters; due = ap (λ t. t.sweep_at) c.make_room.ensures.time }
