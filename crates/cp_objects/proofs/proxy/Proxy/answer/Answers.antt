use Rattle.std.proofs.Common.{sym}
use Rattle.cp_objects.specs.Context.{context_of}
use Rattle.cp_objects.proofs.Answering.{after_ok}
use Rattle.cp_objects.proofs.Proxying.{none_answered, one_answered}
use Rattle.cp_objects.proofs.proxy.Proxy.answer.Goals as goal

pub returns-then-not-close-clause-told : goal.returns-then-not-close-clause-told
returns-then-not-close-clause-told g c = none_answered _ c.args.ticket c.args.outcome (context_of c.args.context.now) _ (sym c.if-not-close.ensures.open) c.if-not-close.ensures.noted

pub returns-clause-told : goal.returns-clause-told
returns-clause-told g c =
    after_ok c.settle.result c.settle.ensures.noted (λ settles.
    one_answered _ c.args.ticket c.args.outcome (context_of c.args.context.now) (context_of c.close.new.context) (context_of c.outcome_here.new.context) _ c.in_ok-outcome.outcome
    (sym c.if-not-close.ensures.open) c.if-not-close.ensures.noted c.in_ok-outcome.ensures.named c.in_ok-outcome.ensures.noted (rw c.settled.ensures at settles))

pub returns-clause-closed : goal.returns-clause-closed
returns-clause-closed g c = after_ok c.settle.result c.settle.ensures.noted (λ settles. c.if-not-close.ensures.closed)
