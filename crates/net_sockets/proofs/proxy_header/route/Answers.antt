use Rattle.net_sockets.proofs.Headers.{is_none_so, no_receiver, no_sender, routes}
use Rattle.net_sockets.proofs.proxy_header.route.Goals as goal

pub returns-in_err-address-clause-unnamed : goal.returns-in_err-address-clause-unnamed
returns-in_err-address-clause-unnamed c =
    let one = c.in_ok-sender.ensures.found in
    let two = c.in_ok-receiver.ensures.found in
    let three = c.in_ok-from.ensures.found in
    is_none_so c.from_residual-in_err-address.result
    (no_sender c.args.is_ipv6 c.args.ends.now _ _ _ _ _ _ one.1 one.2 two.1 two.2 three.1 three.2 c.in_err-address.ensures.unnamed)

pub returns-in_err-endpoint-clause-unnamed : goal.returns-in_err-endpoint-clause-unnamed
returns-in_err-endpoint-clause-unnamed c =
    let one = c.in_ok-sender.ensures.found in
    let two = c.in_ok-receiver.ensures.found in
    let three = c.in_ok-from.ensures.found in
    is_none_so c.from_residual-in_err-endpoint.result
    (no_receiver c.args.is_ipv6 c.args.ends.now _ _ _ _ _ _ one.1 one.2 two.1 two.2 three.1 three.2 c.in_err-endpoint.ensures.unnamed)

pub returns-clause-named : goal.returns-clause-named
returns-clause-named c =
    let one = c.in_ok-sender.ensures.found in
    let two = c.in_ok-receiver.ensures.found in
    let three = c.in_ok-from.ensures.found in
    routes c.args.is_ipv6 c.args.ends.now _ _ _ _ _ _ one.1 one.2 two.1 two.2 three.1 three.2 c.in_ok-address.address c.in_ok-endpoint.field-0 one.0 two.0 three.0
    c.in_ok-address.ensures.named c.in_ok-endpoint.ensures.named
