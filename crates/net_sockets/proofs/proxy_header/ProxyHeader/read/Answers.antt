use Rattle.std.proofs.Common.{arith}
use Rattle.net_sockets.proofs.Headers.{reads_first, reads_second}
use Rattle.net_sockets.proofs.proxy_header.ProxyHeader.read.Goals as goal

pub returns-in-80 : goal.returns-in-80
returns-in-80 c = reads_first c.args.bytes.now c.read_first.result (omega (arith, c.if-bytes-lt-LEAST.false)) (omega (arith, c.in-80.is)) c.read_first.ensures

pub returns-in-13 : goal.returns-in-13
returns-in-13 c = reads_second c.args.bytes.now c.read_second.result (omega (arith, c.if-bytes-lt-LEAST.false)) (omega (arith, c.in-13.is)) c.read_second.ensures
