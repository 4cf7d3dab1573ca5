use Rattle.net_host.specs.Feeding.{Leaves}
use Rattle.net_host.proofs.hosted_connection.feed.Given as goal

-- the session was given what isn't left of the piece
abbrev pub invariant-loop : goal.invariant-loop
invariant-loop g l = Leaves g.S.DrivenSession.table l.allowed.now (g.S.DrivenSession.state l.fn.session) l.fn.piece l.left (g.S.DrivenSession.state l.session)
