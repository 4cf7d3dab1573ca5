use Rattle.std.proofs.Common.{[], refl}
use Rattle.net_host.proofs.Fed.{fed_none, fed_so_far, leaves_less}
use Rattle.net_host.proofs.hosted_connection.feed.Goals as goal

pub loop-init : goal.loop-init
loop-init g c = ([], refl, fed_none c.args.allowed.now (g.S.DrivenSession.state c.args.session.now))

pub loop-preserved : goal.loop-preserved
loop-preserved g c = leaves_less _ c.loop.left.now c.feed_next-count.result c.loop.invariant c.feed_next-count.ensures.fed

pub returns-clause-fed : goal.returns-clause-fed
returns-clause-fed g c = fed_so_far _ c.loop.invariant.0 c.loop.left.now c.loop.invariant.1 c.loop.invariant.2
