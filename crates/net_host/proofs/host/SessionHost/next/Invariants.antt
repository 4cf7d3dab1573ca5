use Rattle.std.proofs.Common.{◌≡◌}
use Rattle.net_host.specs.Floor.{Rounds, connections_of}
use Rattle.net_host.specs.Roster.{GoesOn}
use Rattle.net_host.specs.RosterOf.{now_of, roster}
use Rattle.net_host.specs.Timing.{ComesBy}
use Rattle.net_host.proofs.host.SessionHost.next.Given as goal

-- nothing came so far, and some had their turns; no time passed, if the time had come at first that the program named
abbrev pub invariant-loop : goal.invariant-loop
invariant-loop g l = record {
  goes_on : GoesOn (roster l.fn.self) (roster l.self);
  turns : Rounds g.S.DrivenSession.table (connections_of g.S.DrivenSession.state l.fn.self) (connections_of g.S.DrivenSession.state l.self);
  on_time : ComesBy (now_of l.fn.self) l.fn.self.alarm → now_of l.self ≡ now_of l.fn.self;
}
