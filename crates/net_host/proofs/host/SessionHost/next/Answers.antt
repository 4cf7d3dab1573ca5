use Rattle.std.proofs.Common.{Some, None, refl, arith}
use Rattle.cp_session.proofs.Deciding.{err_so}
use Rattle.net_host.proofs.Floors.{reports_after, rounds_both}
use Rattle.net_host.proofs.Rosters.{goes_both, hears_after, on_time_after, unmet}
use Rattle.net_host.specs.Floor.{begins, connections_of}
use Rattle.net_host.specs.RosterOf.{now_of, roster}
use Rattle.net_host.proofs.host.SessionHost.next.Goals as goal

pub loop-init : goal.loop-init
loop-init g c = record { goes_on = record { rest = refl; no_more = omega arith }; turns = begins; on_time = λ comes. refl }

pub loop-preserved : goal.loop-preserved
loop-preserved g c = record {
  goes_on = goes_both c.loop.invariant.goes_on (rw c.in-Nothing.is at c.in_ok-look.ensures.looks);
  turns = rounds_both c.loop.invariant.turns (rw c.in-Nothing.is at c.in_ok-look.ensures.reports);
  on_time = λ comes. absurd (unmet _ _ c.loop.invariant.goes_on c.loop.invariant.on_time (rw c.in-Nothing.is at c.in_ok-look.ensures.on_time) comes);
}

pub returns-in_err-look-clause-unheard : goal.returns-in_err-look-clause-unheard
returns-in_err-look-clause-unheard g c = err_so _ (goes_both c.loop.invariant.goes_on c.in_err-look.ensures.unheard)

pub returns-in_err-look-clause-unreported : goal.returns-in_err-look-clause-unreported
returns-in_err-look-clause-unreported g c = err_so _ (rounds_both c.loop.invariant.turns c.in_err-look.ensures.unreported)

pub returns-in-HostEvent-clause-hears : goal.returns-in-HostEvent-clause-hears
returns-in-HostEvent-clause-hears g c =
    hears_after (Some c.in-HostEvent.news) (roster c.look.new.self) c.loop.invariant.goes_on (rw c.in-HostEvent.is at c.in_ok-look.ensures.looks)

pub returns-in-HostEvent-clause-reports : goal.returns-in-HostEvent-clause-reports
returns-in-HostEvent-clause-reports g c =
    reports_after (Some c.in-HostEvent.news) (connections_of g.S.DrivenSession.state c.look.new.self) c.loop.invariant.turns (rw c.in-HostEvent.is at c.in_ok-look.ensures.reports)

pub returns-in-Over-clause-hears : goal.returns-in-Over-clause-hears
returns-in-Over-clause-hears g c =
    hears_after None (roster c.look.new.self) c.loop.invariant.goes_on (rw c.in-Over.is at c.in_ok-look.ensures.looks)

pub returns-in-Over-clause-reports : goal.returns-in-Over-clause-reports
returns-in-Over-clause-reports g c =
    reports_after None (connections_of g.S.DrivenSession.state c.look.new.self) c.loop.invariant.turns (rw c.in-Over.is at c.in_ok-look.ensures.reports)

pub returns-in-HostEvent-clause-on_time : goal.returns-in-HostEvent-clause-on_time
returns-in-HostEvent-clause-on_time g c =
    on_time_after _ _ (now_of c.look.new.self) (Some c.in-HostEvent.news) c.loop.invariant.goes_on c.loop.invariant.on_time (rw c.in-HostEvent.is at c.in_ok-look.ensures.on_time)

pub returns-in-Over-clause-on_time : goal.returns-in-Over-clause-on_time
returns-in-Over-clause-on_time g c =
    on_time_after _ _ (now_of c.look.new.self) None c.loop.invariant.goes_on c.loop.invariant.on_time (rw c.in-Over.is at c.in_ok-look.ensures.on_time)
