use Rattle.std.proofs.Common.{◌∙◌, Some, refl, sym, ap}
use Rattle.cp_messages.specs.declared.exception.Exception.{Exception}
use Rattle.cp_servants.specs.Requests.{request_of}
use Rattle.cp_objects.specs.Proxying.{failing, forwards, is_broken, is_overloaded}
use Rattle.cp_objects.proofs.Answering.{if_ok}
use Rattle.cp_objects.proofs.proxy.Proxy.call.Goals as goal

pub returns-in-Some : goal.returns-in-Some
returns-in-Some g c =
    if_ok c.refuse.result c.refuse.ensures (λ reply fails.
    is_broken c.in_ok-exception.exception (sym c.in-Some.ensures ∙ ap (λ (e : Exception). Some e) (sym c.in_ok-exception.ensures)) fails refl refl)

pub returns-then-context-ge-MOST : goal.returns-then-context-ge-MOST
returns-then-context-ge-MOST g c =
    if_ok c.refuse-then-context-ge-MOST.result c.refuse-then-context-ge-MOST.ensures (λ reply fails.
    is_overloaded (sym c.in_default.ensures) c.if-context-ge-MOST.true
    (fails ∙ ap (λ (e : Exception). failing e (request_of c.args.request)) c.in_ok-overloaded.ensures) refl refl)

pub returns : goal.returns
returns g c =
    forwards (sym c.in_default.ensures) c.if-context-ge-MOST.false refl (rw c.in_ok-request.ensures at c.in_ok-forward.ensures.posted) (rw c.in_ok-request.ensures at c.in_ok-forward.ensures.pending)
