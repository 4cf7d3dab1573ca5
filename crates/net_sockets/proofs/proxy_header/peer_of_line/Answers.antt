use Rattle.net_sockets.proofs.Headers.{line_named, none_so, only_written}
use Rattle.net_sockets.proofs.proxy_header.peer_of_line.Goals as goal

pub returns-in-Ok-clause-named : goal.returns-in-Ok-clause-named
returns-in-Ok-clause-named c =
    line_named c.peer_of_text.result c.in-Ok.text.now c.args.line.now c.in-Ok.ensures.cases.0 c.in-Ok.ensures.cases.1 c.peer_of_text.ensures.named

pub returns-in-Ok-clause-unnamed : goal.returns-in-Ok-clause-unnamed
returns-in-Ok-clause-unnamed c =
    none_so c.peer_of_text.result (only_written c.in-Ok.text.now c.args.line.now c.in-Ok.ensures.cases.0) c.peer_of_text.ensures.unnamed
