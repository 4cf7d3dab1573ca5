use Rattle.std.proofs.lemmas.Bool.{le-leb, leb-true}
use Rattle.cp_session.specs.Doing.{due_of}
use Rattle.net_host.proofs.Timing.{comes_at, comes_none}
use Rattle.net_host.proofs.hosted_connection.HostedConnection.is_overdue.Goals as goal

pub returns-in-None : goal.returns-in-None
returns-in-None g c = comes_none (due_of g.S.DrivenSession.table (g.S.DrivenSession.state c.args.self.now.session)) c.args.now c.in-None.ensures

pub returns-in-Some : goal.returns-in-Some
returns-in-Some g c =
    comes_at (due_of g.S.DrivenSession.table (g.S.DrivenSession.state c.args.self.now.session)) c.args.now c.in-Some.deadline _ c.in-Some.ensures
    (leb-true c.in-Some.deadline c.args.now, le-leb c.in-Some.deadline c.args.now)
