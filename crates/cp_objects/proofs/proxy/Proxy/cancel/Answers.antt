use Rattle.std.proofs.Common.{sym, ap}
use Rattle.cp_objects.specs.Context.{context_of}
use Rattle.cp_objects.specs.Proxying.{ProxyState}
use Rattle.cp_objects.proofs.Answering.{after_ok}
use Rattle.cp_objects.proofs.Proxying.{none_canceled, one_canceled}
use Rattle.cp_objects.proofs.proxy.Proxy.cancel.Goals as goal

pub returns-then-not-close-clause-told : goal.returns-then-not-close-clause-told
returns-then-not-close-clause-told g c =
    none_canceled _ c.args.self.now.target c.args.ticket (context_of c.args.context.now) _ (sym c.if-not-close.ensures.open) c.if-not-close.ensures.noted

pub returns-clause-told : goal.returns-clause-told
returns-clause-told g c =
    after_ok c.settle.result c.settle.ensures.noted (λ settles.
    one_canceled _ c.args.self.now.target c.close.new.self.target c.args.ticket (context_of c.args.context.now) (context_of c.close.new.context) (context_of c.give_up.new.context) _ c.in_ok-canceled.canceled
    (sym c.if-not-close.ensures.open) c.if-not-close.ensures.noted (ap (λ (p : ProxyState). p.target) c.if-not-close.ensures.closed) c.in_ok-give_up.ensures c.in_ok-canceled.ensures
    (rw c.settled.ensures at settles))

pub returns-clause-closed : goal.returns-clause-closed
returns-clause-closed g c = after_ok c.settle.result c.settle.ensures.noted (λ settles. c.if-not-close.ensures.closed)
