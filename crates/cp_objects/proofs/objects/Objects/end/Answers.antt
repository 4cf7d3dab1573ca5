use Rattle.cp_objects.specs.Objects.{objects_of}
use Rattle.cp_objects.proofs.objects.Objects.end.Goals as goal

pub returns-in-Ok : goal.returns-in-Ok
returns-in-Ok g c = (objects_of c.tell_end-told.new.self, c.in-Ok.ensures, c.remove-departed.ensures.departed, c.remove-departed.ensures.gone)
