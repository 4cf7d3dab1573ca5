use Rattle.std.proofs.Common.{codes}
use Rattle.net_sockets.proofs.Headers.{alike, none_so, only_four, only_six}
use Rattle.net_sockets.proofs.proxy_header.over.Goals as goal

pub returns-then-eq-clause-unnamed : goal.returns-then-eq-clause-unnamed
returns-then-eq-clause-unnamed c =
    none_so c.route.result (only_four c.args.family.now c.args.ends.now (alike c.args.family.now (codes "TCP4") c.if-eq.ensures)) c.route.ensures.unnamed

pub returns-then-eq-2-clause-unnamed : goal.returns-then-eq-2-clause-unnamed
returns-then-eq-2-clause-unnamed c =
    none_so c.route-then-eq-2.result (only_six c.args.family.now c.args.ends.now (alike c.args.family.now (codes "TCP6") c.if-eq-2.ensures)) c.route-then-eq-2.ensures.unnamed
