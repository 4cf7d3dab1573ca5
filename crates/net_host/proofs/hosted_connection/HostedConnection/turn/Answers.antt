use Rattle.std.proofs.Common.{◌∙◌, ◌++◌, List, ap, append_assoc}
use Rattle.cp_objects.specs.declared.letters.Letter.{Letter}
use Rattle.net_host.proofs.Serving.{closes_short}
use Rattle.net_host.specs.HostedConnections.{served_of}
use Rattle.net_host.proofs.hosted_connection.HostedConnection.turn.Goals as goal

pub returns-then-is_err-clause-visits : goal.returns-then-is_err-clause-visits
returns-then-is_err-clause-visits g c =
    let stays = c.in_default.ensures.stays in
    let left = c.run_out.ensures in (
      stays.0 ++ left.0,
      left.1 ∙ ap (λ (x : List Letter). x ++ left.0) stays.1 ∙ append_assoc c.args.letters.now.items stays.0 left.0,
      closes_short (served_of g.S.DrivenSession.state g.D.Socket.flow c.args.self.now) (served_of g.S.DrivenSession.state g.D.Socket.flow c.visit.new.self) _ _ stays.2.works left.2,
    )
