use Rattle.std.proofs.Common.{arith}
use Rattle.net_sockets.proofs.Headers.{line_malformed}
use Rattle.net_sockets.proofs.proxy_header.read_first.Goals as goal

pub returns-in-None : goal.returns-in-None
returns-in-None c = line_malformed c.args.bytes.now c.requires (omega (arith, c.if-bytes-ne10.false)) (λ peer is. c.in-None.ensures.unnamed peer is.says)
