use Rattle.std.proofs.Common.{codes}
use Rattle.net_sockets.proofs.Headers.{alike, none_so, only_told, written_named}
use Rattle.net_sockets.proofs.proxy_header.peer_of_text.Goals as goal

pub returns-then-eq-clause-named : goal.returns-then-eq-clause-named
returns-then-eq-clause-named c =
    let found = c.in_ok-proxy.ensures.found in
    written_named c.told_by.result c.args.text.now c.in_ok-proxy.proxy.now c.in_ok-proxy.rest.now found.0 found.1 found.2 (alike c.in_ok-proxy.proxy.now (codes "PROXY") c.if-eq.ensures)
    c.told_by.ensures.named

pub returns-then-eq-clause-unnamed : goal.returns-then-eq-clause-unnamed
returns-then-eq-clause-unnamed c =
    none_so c.told_by.result (only_told c.args.text.now c.in_ok-proxy.rest.now c.in_ok-proxy.ensures.found.2) c.told_by.ensures.unnamed
