use Rattle.std.proofs.Common.{arith}
use Rattle.net_sockets.proofs.Headers.{none_so, only_handed}
use Rattle.net_sockets.proofs.proxy_header.peer_by.Goals as goal

pub returns-in-33-clause-unnamed : goal.returns-in-33-clause-unnamed
returns-in-33-clause-unnamed c = none_so c.handed_on.result (only_handed c.args.command c.args.family c.args.addresses.now (omega (arith, c.in-33.is))) c.handed_on.ensures.unnamed
