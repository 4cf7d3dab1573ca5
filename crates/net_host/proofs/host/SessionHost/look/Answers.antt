use Rattle.net_sockets.specs.Sockets.{flow_of_socket}
use Rattle.std.proofs.Common.{◌∙◌, ap, refl, sym}
use Rattle.cp_session.proofs.Deciding.{err_so}
use Rattle.net_host.proofs.Floors.{rests_same, rests_unended, rounds_both, tells_accepted, tells_ended}
use Rattle.net_host.proofs.Rosters.{on_time_accepted}
use Rattle.net_host.proofs.Timing.{not_come}
use Rattle.net_host.specs.Floor.{begins, connections_of, floor_of, rests, turns}
use Rattle.net_host.proofs.host.SessionHost.look.Goals as goal

pub returns-in-Some-clause-reports : goal.returns-in-Some-clause-reports
returns-in-Some-clause-reports g c =
    (connections_of g.S.DrivenSession.state c.args.self.now, begins, tells_ended g.S.DrivenSession.state flow_of_socket c.args.self.now.event_loop c.next_end.new.self _ _ c.in-Some.ensures.same c.in-Some.ensures.budget c.in-Some.ensures.letters c.in-Some.ensures.time c.in-Some.ensures.first c.ended.ensures)

pub returns-in-Some-accept-clause-reports : goal.returns-in-Some-accept-clause-reports
returns-in-Some-accept-clause-reports g c = (
  floor_of g.S.DrivenSession.state flow_of_socket c.next_end.new.self,
  turns begins (rests (rests_unended g.S.DrivenSession.state flow_of_socket c.args.self.now.event_loop c.next_end.new.self c.in_default.ensures.same c.in_default.ensures.budget c.in_default.ensures.letters c.in_default.ensures.time c.in_default.ensures.first)),
  tells_accepted _ _ _ _ _ c.in-Some-accept.ensures.accepts (ap (λ event_loop. floor_of g.S.DrivenSession.state flow_of_socket event_loop) c.in-Some-accept.ensures.same)
      (sym c.in_default.ensures.first ∙ c.in_default.ensures.none),
)

pub returns-in-None-clause-reports : goal.returns-in-None-clause-reports
returns-in-None-clause-reports g c =
    turns (turns begins (rests (rests_unended g.S.DrivenSession.state flow_of_socket c.args.self.now.event_loop c.next_end.new.self c.in_default.ensures.same c.in_default.ensures.budget c.in_default.ensures.letters c.in_default.ensures.time c.in_default.ensures.first))) (rests (rests_same g.S.DrivenSession.state flow_of_socket c.next_end.new.self c.accept.new.self.event_loop c.in-None.ensures.same))

pub returns-then-is_over-clause-reports : goal.returns-then-is_over-clause-reports
returns-then-is_over-clause-reports g c =
    (floor_of g.S.DrivenSession.state flow_of_socket c.next_end.new.self, turns begins (rests (rests_unended g.S.DrivenSession.state flow_of_socket c.args.self.now.event_loop c.next_end.new.self c.in_default.ensures.same c.in_default.ensures.budget c.in_default.ensures.letters c.in_default.ensures.time c.in_default.ensures.first)), (refl, (sym c.in_default.ensures.first ∙ c.in_default.ensures.none)))

pub returns-clause-reports : goal.returns-clause-reports
returns-clause-reports g c =
    rounds_both (turns begins (rests (rests_unended g.S.DrivenSession.state flow_of_socket c.args.self.now.event_loop c.next_end.new.self c.in_default.ensures.same c.in_default.ensures.budget c.in_default.ensures.letters c.in_default.ensures.time c.in_default.ensures.first))) c.round.ensures.turns

pub returns-in_err-round-clause-unreported : goal.returns-in_err-round-clause-unreported
returns-in_err-round-clause-unreported g c =
    err_so _ (rounds_both (turns begins (rests (rests_unended g.S.DrivenSession.state flow_of_socket c.args.self.now.event_loop c.next_end.new.self c.in_default.ensures.same c.in_default.ensures.budget c.in_default.ensures.letters c.in_default.ensures.time c.in_default.ensures.first))) c.round.ensures.turns)

pub returns-then-has_come-clause-reports : goal.returns-then-has_come-clause-reports
returns-then-has_come-clause-reports g c =
    (floor_of g.S.DrivenSession.state flow_of_socket c.next_end.new.self, turns begins (rests (rests_unended g.S.DrivenSession.state flow_of_socket c.args.self.now.event_loop c.next_end.new.self c.in_default.ensures.same c.in_default.ensures.budget c.in_default.ensures.letters c.in_default.ensures.time c.in_default.ensures.first)), (refl, (sym c.in_default.ensures.first ∙ c.in_default.ensures.none)))

pub returns-in-Some-clause-on_time : goal.returns-in-Some-clause-on_time
returns-in-Some-clause-on_time g c = rw c.ended.ensures tt

pub returns-then-has_come-clause-on_time : goal.returns-then-has_come-clause-on_time
returns-then-has_come-clause-on_time g c = rw (← c.now.ensures) (c.if-has_come.ensures.0 refl)

pub returns-in-Some-accept-clause-on_time : goal.returns-in-Some-accept-clause-on_time
returns-in-Some-accept-clause-on_time g c =
    on_time_accepted _ _ _ _ _ _ c.in-Some-accept.ensures.accepts (not_come _ _ _ c.if-has_come.ensures.1 (c.now.ensures ∙ ap (λ t. t.at) c.in_default.ensures.time))

pub returns-in-None-clause-on_time : goal.returns-in-None-clause-on_time
returns-in-None-clause-on_time g c = not_come _ _ _ c.if-has_come.ensures.1 (c.now.ensures ∙ ap (λ t. t.at) c.in_default.ensures.time)

pub returns-then-is_over-clause-on_time : goal.returns-then-is_over-clause-on_time
returns-then-is_over-clause-on_time g c = not_come _ _ _ c.if-has_come.ensures.1 (c.now.ensures ∙ ap (λ t. t.at) c.in_default.ensures.time)

pub returns-clause-on_time : goal.returns-clause-on_time
returns-clause-on_time g c = not_come _ _ _ c.if-has_come.ensures.1 (c.now.ensures ∙ ap (λ t. t.at) c.in_default.ensures.time)
