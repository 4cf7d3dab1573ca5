use Rattle.std.proofs.Common.{[], ◌++◌, subst}
use Rattle.net_sockets.proofs.Hearing.{greets_unmet, keeps_more, keeps_none}
use Rattle.net_sockets.specs.ProxyHeader.{Says}
use Rattle.net_sockets.proofs.greeting.Greeting.hear.Goals as goal

pub loop-init : goal.loop-init
loop-init g c = ([], keeps_none g.D.Socket.flow c.args.self.now)

pub loop-preserved : goal.loop-preserved
loop-preserved g c =
    let took = c.in-Ok.ensures in
    (c.loop.invariant.0 ++ took.0, keeps_more g.D.Socket.flow _ _ _ c.loop.invariant.0 took.0 c.in-Ok.count c.if-count-eq0.false c.loop.invariant.1 took.3)

pub returns-in-Whole : goal.returns-in-Whole
returns-in-Whole g c = (c.loop.invariant.0, c.loop.invariant.1, subst (λ came. Says came c.in-Whole.peer) c.deref.ensures.value c.in-Whole.ensures)

pub returns-in-Err : goal.returns-in-Err
returns-in-Err g c = greets_unmet g.D.Socket.flow _ _ c.greeted_at.result c.greeted_at.ensures
