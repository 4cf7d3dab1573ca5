use Rattle.std.proofs.Common.{refl}
use Rattle.cp_session.proofs.Deciding.{err_so}
use Rattle.net_host.proofs.Serving.{hands_begin, hands_end, hands_next, hands_still}
use Rattle.net_host.specs.HostedConnections.{served_of}
use Rattle.net_host.proofs.hosted_connection.HostedConnection.hand_over.Goals as goal

pub loop-init : goal.loop-init
loop-init g c = hands_begin (served_of g.S.DrivenSession.state g.D.Socket.flow c.args.self.now) c.args.letters.now.items

pub loop-preserved : goal.loop-preserved
loop-preserved g c = hands_next _ _ _ _ c.in-Some.letter c.loop.invariant c.reserve.ensures.items c.in-Some.ensures refl c.push_back_reserved.ensures.items

pub returns-in_default-clause-all : goal.returns-in_default-clause-all
returns-in_default-clause-all g c = hands_end _ _ _ c.loop.invariant c.reserve.ensures.items c.in_default.ensures refl

pub returns-in_err-reserve-clause-some : goal.returns-in_err-reserve-clause-some
returns-in_err-reserve-clause-some g c = err_so _ (hands_still _ _ _ c.loop.invariant c.reserve.ensures.items)
