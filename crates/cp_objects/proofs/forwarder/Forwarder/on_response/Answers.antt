use Rattle.cp_objects.specs.Context.{context_of}
use Rattle.cp_objects.proofs.Answering.{after_ok}
use Rattle.cp_objects.proofs.Forwarding.{told_none, told_one}
use Rattle.cp_objects.proofs.forwarder.Forwarder.on_response.Goals as goal

pub returns : goal.returns
returns g c =
    after_ok c.post.result c.post.ensures (λ posted.
    told_one c.args.self.now c.args.call_id c.args.outcome (context_of c.args.context.now) _ c.answer.new.self c.in_ok-outcome.ensures.noted c.in-Some.ensures.rest c.in-Some.caller c.in_ok-outcome.outcome _
    c.in-Some.ensures.caller c.in_ok-outcome.ensures.shared (rw c.answer_to.ensures at posted))

pub returns-in_default : goal.returns-in_default
returns-in_default g c =
    told_none c.args.self.now c.args.call_id c.args.outcome (context_of c.args.context.now) _ c.answer.new.self c.in_ok-outcome.ensures.noted c.in_default.ensures.rest c.in_default.ensures.caller
