use Rattle.std.proofs.Common.{◌∙◌, codes}
use Rattle.net_sockets.proofs.Headers.{differ, none_so, only_over, told_named}
use Rattle.net_sockets.proofs.proxy_header.told_by.Goals as goal

pub returns-clause-named : goal.returns-clause-named
returns-clause-named c =
    let found = c.in_ok-family.ensures.found in
    told_named c.over.result c.args.text.now _ _ found.0 found.1 found.2 c.over.ensures.named

pub returns-clause-unnamed : goal.returns-clause-unnamed
returns-clause-unnamed c =
    let found = c.in_ok-family.ensures.found in
    none_so c.over.result
    (only_over c.args.text.now c.in_ok-family.family.now c.in_ok-family.ends.now (λ is. differ c.first_word.result.now (codes "UNKNOWN") c.if-eq.ensures (c.first_word.ensures ∙ is)) found.1 found.2)
    c.over.ensures.unnamed
