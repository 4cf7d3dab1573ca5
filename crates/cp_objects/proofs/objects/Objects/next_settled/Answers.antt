use Rattle.std.proofs.Common.{List, ap, sym, refl, ◌∙◌}
use Rattle.std.proofs.lemmas.List.{nil_from_length}
use Rattle.cp_servants.specs.declared.servant.Settled.{Settled}
use Rattle.cp_objects.specs.Objects.{objects_of, was_settled}
use Rattle.cp_objects.proofs.Settling.{dropped_handed, none_handed}
use Rattle.cp_objects.proofs.objects.Objects.next_settled.Goals as goal

pub returns-in-Some : goal.returns-in-Some
returns-in-Some g c = was_settled c.in-Some.settled c.in-Some.ensures.items refl

pub loop-init : goal.loop-init
loop-init g c = (
  ap (λ (items : List Settled). record (objects_of c.args.self.now) { settled = items }) (sym c.in_default.ensures.items),
  nil_from_length c.args.self.now.settled.items (sym c.args.self.now.settled.ok.0 ∙ c.in_default.ensures.cases.0),
)

pub returns-in_default-next_dropped : goal.returns-in_default-next_dropped
returns-in_default-next_dropped g c = none_handed _ _ c.loop.invariant.0 c.loop.invariant.1

pub returns-in-Some-owner : goal.returns-in-Some-owner
returns-in-Some-owner g c =
    dropped_handed _ _ c.loop.invariant.0 c.loop.invariant.1 c.in-Some-owner.owner c.in-Some-next_dropped.field-0.ticket c.in-Some-next_dropped.field-0.gives_up _ _
    (sym c.in-Some-owner.ensures) c.in_ok-failed.ensures.failed c.in_ok-failed.ensures.answered
