use Rattle.std.proofs.Common.{false, refl}
use Rattle.cp_objects.specs.Objects.{objects_of}
use Rattle.cp_objects.proofs.Answering.{after_ok, not_some}
use Rattle.cp_objects.proofs.Telling.{told_there, told_nobody, told_gone}
use Rattle.cp_objects.proofs.objects.Objects.deliver.Goals as goal

pub returns-then-contains : goal.returns-then-contains
returns-then-contains g c =
    after_ok c.tell.result c.tell.ensures (λ told. told_there c.args.body (objects_of c.args.self.now) _ _ c.in-Ok-Some.number c.in-Ok-Some.ensures.needs (rw c.in-Ok-Some.field-0-is at c.in-Ok-Some.ensures.receiver) told)

pub returns-else-contains : goal.returns-else-contains
returns-else-contains g c =
    told_gone c.args.body (objects_of c.args.self.now) _ c.in-Ok-Some.number c.in-Ok-Some.ensures.needs (rw c.in-Ok-Some.field-0-is at c.in-Ok-Some.ensures.receiver)
    (not_some _ false c.if-contains.ensures refl)

pub returns-in-Ok-None : goal.returns-in-Ok-None
returns-in-Ok-None g c = told_nobody c.args.body (objects_of c.args.self.now) _ c.in-Ok-None.ensures.needs (rw c.in-Ok-None.field-0-is at c.in-Ok-None.ensures.receiver)
