use Rattle.std.proofs.Common.{refl}
use Rattle.cp_objects.specs.Objects.{has_none, objects_of}
use Rattle.cp_objects.proofs.objects.Objects.next_call.Goals as goal

pub returns : goal.returns
returns g c =
    has_none (objects_of c.ask_object.new.self) (c.has_next_call.ensures.none c.if-has_next_call.false) c.in_ok-ask_object.ensures
    (c.take_next_call-2.ensures.first, rw c.take_next_call-2.ensures.rest refl)
