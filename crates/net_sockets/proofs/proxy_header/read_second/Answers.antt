use Rattle.std.proofs.Common.{Option, get_or, refl, subst, arith}
use Rattle.std.proofs.lemmas.List.{take_rest}
use Rattle.net_sockets.specs.declared.listener.Peer.{Peer}
use Rattle.net_sockets.proofs.Headers.{second_whole, unnamed_second}
use Rattle.net_sockets.specs.ProxyHeader.{IsNamed}
use Rattle.net_sockets.proofs.proxy_header.read_second.Goals as goal

pub returns-in-Some : goal.returns-in-Some
returns-in-Some c =
    second_whole c.args.bytes.now c.in-Some.peer (omega (arith, c.if-bytes-lt-FIXED.false)) (c.if-not-is_signed.ensures.0 refl) (omega (arith, c.port_at.ensures)) (omega (arith, c.port_at.ensures))
    (subst (λ addresses. IsNamed (get_or c.args.bytes.now 12 0) (get_or c.args.bytes.now 13 0) addresses c.in-Some.peer) (take_rest c.args.bytes.now 16) c.in-Some.ensures.named)

pub returns-in-None : goal.returns-in-None
returns-in-None c =
    unnamed_second c.args.bytes.now (omega (arith, c.if-bytes-lt-FIXED.false)) (omega (arith, c.port_at.ensures))
    (subst (λ addresses. (peer : Option Peer) → IsNamed (get_or c.args.bytes.now 12 0) (get_or c.args.bytes.now 13 0) addresses peer → ⊥) (take_rest c.args.bytes.now 16) c.in-None.ensures.unnamed)
