use Rattle.std.proofs.Common.{◌∙◌}
use Rattle.cp_objects.specs.Context.{context_of}
use Rattle.cp_objects.proofs.Forwarding.{none_waits, one_waits}
use Rattle.cp_objects.proofs.forwarder.Forwarder.next_call.Goals as goal

pub returns-in_default : goal.returns-in_default
returns-in_default g c = none_waits c.args.self.now (context_of c.args.context.now) c.next.new.self c.in_default.ensures.rest c.in_default.ensures.first

pub returns : goal.returns
returns g c =
    one_waits c.args.self.now (context_of c.args.context.now) c.next.new.self c.in-Some.ensures.rest _ _ _ _ _ c.in-Some.ensures.first
    (c.in_ok-copy.ensures ∙ c.cap.ensures) c.in_ok-caps.ensures.named c.in_ok-caps.ensures.noted
