use Rattle.cp_objects.specs.Context.{context_of}
use Rattle.cp_objects.proofs.Answering.{after_ok}
use Rattle.cp_objects.proofs.Forwarding.{gave_none, gave_up}
use Rattle.cp_objects.proofs.forwarder.Forwarder.give_up.Goals as goal

pub returns-in_default : goal.returns-in_default
returns-in_default g c =
    gave_none c.args.self.now c.args.caller (context_of c.args.context.now) c.cancel.new.self c.in_default.ensures.rest c.in_default.ensures.number

pub returns : goal.returns
returns g c =
    after_ok c.cancel-2.result c.cancel-2.ensures.noted (λ noted.
    gave_up c.args.self.now c.args.caller (context_of c.args.context.now) c.cancel.new.self c.in-Some.ensures.rest c.in-Some.number _ c.in-Some.ensures.number noted)
