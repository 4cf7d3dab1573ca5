use Rattle.std.proofs.Common.{Bool, sym, ap, ◌∙◌}
use Rattle.cp_dispatch.specs.Work.{begun}
use Rattle.cp_session.proofs.endpoint.objects_that.Goals as goal

pub returns-then-may_call : goal.returns-then-may_call
returns-then-may_call c = λ link. c.that_call.ensures link ∙ ap (λ (b : Bool). begun b link) (sym c.if-may_call.true)

pub returns-else-may_call : goal.returns-else-may_call
returns-else-may_call c = λ link. c.new.ensures link ∙ ap (λ (b : Bool). begun b link) (sym c.if-may_call.false)
