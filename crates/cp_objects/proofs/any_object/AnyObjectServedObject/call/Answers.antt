use Rattle.std.proofs.Common.{◌∙◌, ap, refl}
use Rattle.cp_refs.specs.declared.outcome.Outcome.{Outcome}
use Rattle.cp_servants.specs.declared.servant.Reply.TheVariants as replies
use Rattle.cp_servants.specs.Outcomes.{named_imports}
use Rattle.cp_servants.specs.Requests.{request_of}
use Rattle.cp_objects.proofs.Answering.{if_ok}
use Rattle.cp_objects.proofs.any_object.AnyObjectServedObject.call.Goals as goal

pub returns-in-Proxy : goal.returns-in-Proxy
returns-in-Proxy g c = rw c.in-Proxy.is (if_ok c.call-in-Proxy.result c.call-in-Proxy.ensures (λ reply took. (c.call-in-Proxy.new.self, refl, took)))

pub returns-in_ok-outcome-in-Forwarder : goal.returns-in_ok-outcome-in-Forwarder
returns-in_ok-outcome-in-Forwarder g c =
    rw c.in-Forwarder.is
    (if_ok c.refuse.result c.refuse.ensures (λ reply fails.
    (_, refl, (fails ∙ ap (λ (o : Outcome). replies.Now o (named_imports (request_of c.args.request).caps)) c.in_ok-outcome-in-Forwarder.ensures, refl, refl))))
