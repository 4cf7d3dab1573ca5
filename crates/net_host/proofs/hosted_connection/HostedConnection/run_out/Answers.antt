use Rattle.std.proofs.Common.{refl}
use Rattle.net_host.proofs.Leaving.{handed_up, left_short}
use Rattle.net_host.specs.HostedConnections.{served_of}
use Rattle.net_host.proofs.hosted_connection.HostedConnection.run_out.Goals as goal

pub returns : goal.returns
returns g c =
    let at = served_of g.S.DrivenSession.state g.D.Socket.flow in
    let closed = at (record c.args.self.now { session = c.close.new.self }) in
    let last = at c.hand_over.new.self in
    let up = handed_up closed last c.args.letters.now.items c.hand_over.new.letters.items c.hand_over.result c.hand_over.ensures.all c.hand_over.ensures.some in
    left_short c.args.now c.args.letters.now.items c.hand_over.new.letters.items (at c.args.self.now) closed last (at c.end_or.new.self) c.end_or.result (c.close.ensures, refl) up
    (c.from-error.result, c.from-error.ensures, c.end_or.ensures.end) c.end_or.ensures.same
