use Rattle.cp_objects.specs.Objects.{objects_of}
use Rattle.cp_objects.proofs.Needing.{is_made, was_there}
use Rattle.cp_objects.proofs.objects.Objects.need_forwarder.Goals as goal

pub returns-in-Some-clause-there : goal.returns-in-Some-clause-there
returns-in-Some-clause-there g c = was_there (objects_of c.args.self.now) c.in-Some.number c.in-Some.is

pub returns-in-Some-clause-number : goal.returns-in-Some-clause-number
returns-in-Some-clause-number g c = c.in-Some.is

pub returns-clause-there : goal.returns-clause-there
returns-clause-there g c =
    is_made (objects_of c.args.self.now) (objects_of c.join_object.new.self) c.next-number.result c.in_default.is c.next-number.ensures
    (rw (c.set_next.ensures, c.in-Some-checked_add.ensures.1, c.new-forwarder.ensures) at c.in_ok-join_object.ensures)
