use Rattle.std.proofs.Common.{◌∙◌, ap, refl, subst, sym}
use Rattle.cp_session.specs.Doing.{due_of}
use Rattle.cp_session.specs.Progress.{earlier}
use Rattle.cp_session.specs.State.{new_state}
use Rattle.net_host.proofs.Floors.{asked_of, asks_in_room, kept_in_room}
use Rattle.net_host.specs.Connecting.{own_options_of}
use Rattle.net_host.specs.HostedConnections.{new_served}
use Rattle.net_host.specs.Waking.{session_of}
use Rattle.net_host.proofs.event_loop.EventLoop.admit_asking.Goals as goal

pub returns-in-Ok-eq0-clause-asks : goal.returns-in-Ok-eq0-clause-asks
returns-in-Ok-eq0-clause-asks g c =
    let key_of = ap (λ s. s.vacant_key) c.make_room.ensures.same in
    let seated = c.begin-session.ensures.0 in
    let session = g.S.DrivenSession.state c.bootstrap.new.self in
    let shows = c.new-asking.ensures ∙ ap (λ s. new_served g.D.Socket.flow (record c.args.pending { stream = s }) session) c.make_room.ensures.stream in
    let named = c.session_number-named.ensures ∙ ap (λ key. session_of c.args.pending.number key) (c.in-Ok.ensures.key ∙ key_of) in
    let begun = c.now-begun.ensures ∙ ap (λ t. t.at) c.make_room.ensures.time in
    let began = c.begin-session.ensures.2 ∙ ap (λ o. new_state o seated c.now-begun.result) c.own_session-options.ensures
    ∙ ap (λ t. new_state (own_options_of c.args.plan.now) seated t) begun in
    asks_in_room g.S.DrivenSession.state g.D.Socket.flow g.S.DrivenSession.table c.args.plan.now c.args.pending _ c.args.objects seated session c.args.self.now _
    c.make_room.new.self.guests _ c.insert_reserved.result c.new-asking.result c.make_room.ensures.same c.insert_reserved.ensures.was_vacant c.insert_reserved.ensures.updates shows refl
    (ap (λ d. d.items) c.make_room.ensures.ended) c.make_room.ensures.budget (ap (λ w. w.items) c.make_room.ensures.letters)
    (ap (λ t. t.sweep_at) c.expect.ensures ∙ ap (λ t. earlier t.sweep_at c.deadline.result) c.make_room.ensures.time
    ∙ ap (λ d. earlier c.args.self.now.time.sweep_at d) (c.deadline.ensures ∙ ap (λ x. due_of g.S.DrivenSession.table x.session) shows))
    (ap (λ key. session_of c.args.pending.number key) (sym key_of ∙ sym c.insert_reserved.ensures.key))
    (subst (λ n. g.S.DrivenSession.table.is_in n c.args.objects seated) named c.begin-session.ensures.1)
    (asked_of _ _ _ _ began c.in-Ok-eq0.field-0-test c.in-Ok-eq0.ensures)

pub returns-in-Err-clause-unasked : goal.returns-in-Err-clause-unasked
returns-in-Err-clause-unasked g c =
    record { same = kept_in_room g.S.DrivenSession.state g.D.Socket.flow c.args.self.now.guests c.make_room.new.self.guests c.make_room.ensures.same; ended = ap (λ d. d.items) c.make_room.ensures.ended; budget = c.make_room.ensures.budget; letters = ap (λ w. w.items) c.make_room.ensures.letters; due = ap (λ t. t.sweep_at) c.make_room.ensures.time }

pub returns-in_default-clause-unasked : goal.returns-in_default-clause-unasked
returns-in_default-clause-unasked g c =
    record { same = kept_in_room g.S.DrivenSession.state g.D.Socket.flow c.args.self.now.guests c.make_room.new.self.guests c.make_room.ensures.same; ended = ap (λ d. d.items) c.make_room.ensures.ended; budget = c.make_room.ensures.budget; letters = ap (λ w. w.items) c.make_room.ensures.letters; due = ap (λ t. t.sweep_at) c.make_room.ensures.time }
