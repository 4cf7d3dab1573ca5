use Rattle.std.proofs.lemmas.Bool.{false≢true}
use Rattle.std.proofs.Common.{◌∙◌, ap}
use Rattle.cp_session.specs.Progress.{earlier}
use Rattle.net_host.proofs.Overdue.{firsts_all, firsts_next, firsts_none, seeks_all, seeks_done, seeks_passed, seeks_queued}
use Rattle.net_host.proofs.event_loop.queue_overdue.Goals as goal

pub loop-entry-init : goal.loop-entry-init
loop-entry-init g c = record { can_next = tt; is_finite = tt; seeks = seeks_all g.S.DrivenSession.table g.S.DrivenSession.state g.D.Socket.flow c.args.guests.now _ _ _ c.into_iter-entry-iterator.ensures.into_iter_gives; firsts = firsts_none g.S.DrivenSession.table g.S.DrivenSession.state g.D.Socket.flow _ _ c.into_iter-entry-iterator.ensures.into_iter_gives }

pub loop-entry-preserved : goal.loop-entry-preserved
loop-entry-preserved g c = record {
  can_next = tt;
  is_finite = tt;
  seeks =
      seeks_passed g.S.DrivenSession.table g.S.DrivenSession.state g.D.Socket.flow c.args.guests.now _ _ _ _ _ _ (λ overdue. false≢true (c.if-is_overdue.ensures.1 overdue)) c.in-Some.ensures.steps c.loop-entry.invariant.seeks;
  firsts = firsts_next g.S.DrivenSession.table g.S.DrivenSession.state g.D.Socket.flow _ _ _ _ _ _ _ c.in-Some.ensures.steps (c.earlier-first.ensures ∙ ap (λ d. earlier c.loop-entry.first d) c.deadline.ensures) c.loop-entry.invariant.firsts;
}

pub loop-entry-preserved-in-Continue-1 : goal.loop-entry-preserved-in-Continue-1
loop-entry-preserved-in-Continue-1 g c = record {
  can_next = tt;
  is_finite = tt;
  seeks = seeks_queued g.S.DrivenSession.table g.S.DrivenSession.state g.D.Socket.flow c.args.guests.now _ _ _ _ _ _ _ c.in_ok-push_back.ensures.items c.in-Some.ensures.steps c.loop-entry.invariant.seeks;
  firsts = firsts_next g.S.DrivenSession.table g.S.DrivenSession.state g.D.Socket.flow _ _ _ _ _ _ _ c.in-Some.ensures.steps (c.earlier-first.ensures ∙ ap (λ d. earlier c.loop-entry.first d) c.deadline.ensures) c.loop-entry.invariant.firsts;
}

pub returns-clause-queued : goal.returns-clause-queued
returns-clause-queued g c = seeks_done g.S.DrivenSession.table g.S.DrivenSession.state g.D.Socket.flow c.args.guests.now _ _ _ c.in-None.ensures.steps.0 c.loop-entry.invariant.seeks

pub returns-clause-first : goal.returns-clause-first
returns-clause-first g c = firsts_all g.S.DrivenSession.table g.S.DrivenSession.state g.D.Socket.flow c.args.guests.now _ _ c.in-None.ensures.steps.0 c.loop-entry.invariant.firsts
