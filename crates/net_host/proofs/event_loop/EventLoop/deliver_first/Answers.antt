use Rattle.std.proofs.Common.{◌∙◌, ◌∷◌, ◌++◌, [], refl, sym, ap, subst}
use Rattle.cp_session.specs.Progress.{earlier}
use Rattle.net_host.proofs.Floors.{ended_as, is_served, ran_out, seen_kept, seen_taken, seen_written, unserved_none, unserved_other, written_at}
use Rattle.net_host.specs.Floor.{bounces, delivers, delivers_short, number_of, rests, seen}
use Rattle.net_host.specs.HostedConnections.{LeavesShort, forgetting, served_of}
use Rattle.net_host.proofs.event_loop.EventLoop.deliver_first.Goals as goal

pub returns-in_default-clause-turns : goal.returns-in_default-clause-turns
returns-in_default-clause-turns g c = rests (record { same = λ key. refl; ended = refl; budget = refl; letters = sym c.in_default.ensures.items; due = refl })

pub returns-in_default-get_mut-clause-turns : goal.returns-in_default-get_mut-clause-turns
returns-in_default-get_mut-clause-turns g c =
    bounces c.in-Some.letter _ c.in-Some.ensures.items
    (unserved_none g.S.DrivenSession.state g.D.Socket.flow c.args.self.now c.in-Some.letter.to c.key_of-key.result c.key_of-key.ensures c.in_default-get_mut.ensures.value)
    c.bounce.ensures.back (λ key. ap (λ guests. seen g.S.DrivenSession.state g.D.Socket.flow guests key) c.bounce.ensures.guests) (ap (λ e. e.items) c.bounce.ensures.ended) c.bounce.ensures.budget
    (ap (λ t. t.sweep_at) c.bounce.ensures.time)

pub returns-then-session-letter-clause-turns : goal.returns-then-session-letter-clause-turns
returns-then-session-letter-clause-turns g c =
    let hosted = c.in-Some-get_mut.hosted.now in
    bounces c.in-Some.letter _ c.in-Some.ensures.items
    (unserved_other g.S.DrivenSession.state g.D.Socket.flow c.args.self.now c.in-Some.letter.to c.key_of-key.result c.session.result hosted c.key_of-key.ensures c.in-Some-get_mut.ensures.value c.session.ensures c.if-session-letter.true)
    c.bounce-then-session-letter.ensures.back
    (λ key. ap (λ guests. seen g.S.DrivenSession.state g.D.Socket.flow guests key) c.bounce-then-session-letter.ensures.guests
    ∙ seen_kept g.S.DrivenSession.state g.D.Socket.flow c.args.self.now.guests c.key_of-key.result hosted hosted c.in-Some-get_mut.ensures.value refl key)
    (ap (λ e. e.items) c.bounce-then-session-letter.ensures.ended) c.bounce-then-session-letter.ensures.budget (ap (λ t. t.sweep_at) c.bounce-then-session-letter.ensures.time)

pub returns-then-enters-clause-turns : goal.returns-then-enters-clause-turns
returns-then-enters-clause-turns g c =
    let hosted = c.in-Some-get_mut.hosted.now in
    delivers c.in-Some.letter (served_of g.S.DrivenSession.state g.D.Socket.flow hosted) (served_of g.S.DrivenSession.state g.D.Socket.flow c.deliver.new.self) c.in-Some.ensures.items
    (is_served g.S.DrivenSession.state g.D.Socket.flow c.args.self.now c.in-Some.letter.to c.key_of-key.result c.session.result hosted c.key_of-key.ensures c.in-Some-get_mut.ensures.value c.session.ensures c.if-session-letter.false)
    c.in-Ok.ensures.delivered
    (written_at c.key_of-key.ensures (seen_written g.S.DrivenSession.state g.D.Socket.flow c.args.self.now.guests c.key_of-key.result hosted c.deliver.new.self c.in-Some-get_mut.ensures.value)) refl refl
    (ap (λ t. t.sweep_at) c.expect.ensures ∙ ap (λ d. earlier c.args.self.now.time.sweep_at d) c.deadline.ensures)

pub returns-else-enters-clause-turns : goal.returns-else-enters-clause-turns
returns-else-enters-clause-turns g c =
    let hosted = c.in-Some-get_mut.hosted.now in
    delivers c.in-Some.letter (served_of g.S.DrivenSession.state g.D.Socket.flow hosted) (served_of g.S.DrivenSession.state g.D.Socket.flow c.deliver.new.self) c.in-Some.ensures.items
    (is_served g.S.DrivenSession.state g.D.Socket.flow c.args.self.now c.in-Some.letter.to c.key_of-key.result c.session.result hosted c.key_of-key.ensures c.in-Some-get_mut.ensures.value c.session.ensures c.if-session-letter.false)
    c.in-Ok.ensures.delivered
    (written_at c.key_of-key.ensures (seen_written g.S.DrivenSession.state g.D.Socket.flow c.args.self.now.guests c.key_of-key.result hosted c.deliver.new.self c.in-Some-get_mut.ensures.value)) refl refl
    (ap (λ t. t.sweep_at) c.expect.ensures ∙ ap (λ d. earlier c.args.self.now.time.sweep_at d) c.deadline.ensures)

pub returns-in-Err-clause-turns : goal.returns-in-Err-clause-turns
returns-in-Err-clause-turns g c =
    let hosted = c.in-Some-get_mut.hosted.now in
    let one = served_of g.S.DrivenSession.state g.D.Socket.flow hosted in
    let failed = served_of g.S.DrivenSession.state g.D.Socket.flow c.deliver.new.self in
    let last = served_of g.S.DrivenSession.state g.D.Socket.flow c.run_out-end.new.self in
    let short = subst (λ now. LeavesShort g.S.DrivenSession.table now failed c.run_out-end.ensures.0 c.run_out-end.result last) c.now.ensures c.run_out-end.ensures.2 in
    let kept = ran_out one failed last c.run_out-end.result c.in-Err.ensures.err short in
    let is = ended_as c.ended-ended.result _ _ _ _ c.run_out-end.result _ _ c.ended-ended.ensures kept.0 kept.1 refl in
    delivers_short c.in-Some.letter one failed last _ c.run_out-end.ensures.0 c.run_out-end.result c.in-Some.ensures.items
    (is_served g.S.DrivenSession.state g.D.Socket.flow c.args.self.now c.in-Some.letter.to c.key_of-key.result c.session.result hosted c.key_of-key.ensures c.in-Some-get_mut.ensures.value c.session.ensures c.if-session-letter.false)
    c.in-Err.ensures.err short (ap (λ l. l.items) c.close.ensures.letters ∙ c.run_out-end.ensures.1)
    (written_at c.key_of-key.ensures
    (seen_taken g.S.DrivenSession.state g.D.Socket.flow c.args.self.now.guests c.close.new.self.guests c.key_of-key.result hosted c.run_out-end.new.self c.in-Some-get_mut.ensures.value c.close.ensures.updates))
    (c.close.ensures.ended ∙ ap (λ x. c.args.self.now.ended.items ++ x ∷ []) is)
    (c.close.ensures.budget ∙ c.forget.ensures ∙ ap (λ n. forgetting c.args.self.now.budget n) (c.number_of.ensures ∙ ap (λ k. number_of k) c.key_of-key.ensures))
    (ap (λ t. t.sweep_at) c.close.ensures.time)
