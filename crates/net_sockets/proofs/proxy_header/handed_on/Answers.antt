use Rattle.std.proofs.Common.{arith}
use Rattle.net_sockets.proofs.Headers.{none_so, only_ipv4, only_ipv6}
use Rattle.net_sockets.proofs.proxy_header.handed_on.Goals as goal

pub returns-in-17-clause-unnamed : goal.returns-in-17-clause-unnamed
returns-in-17-clause-unnamed c = none_so c.over_ipv4.result (only_ipv4 c.args.family c.args.addresses.now (omega (arith, c.in-17.is))) c.over_ipv4.ensures.unnamed

pub returns-in-33-clause-unnamed : goal.returns-in-33-clause-unnamed
returns-in-33-clause-unnamed c = none_so c.over_ipv6.result (only_ipv6 c.args.family c.args.addresses.now (omega (arith, c.in-33.is))) c.over_ipv6.ensures.unnamed
