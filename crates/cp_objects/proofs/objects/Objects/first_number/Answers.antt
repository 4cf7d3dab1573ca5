use Rattle.std.proofs.Common.{refl}
use Rattle.cp_objects.proofs.objects.Objects.first_number.Goals as goal

pub returns-in-Some : goal.returns-in-Some
returns-in-Some g c = rw (← c.iter.ensures, c.in-Some.ensures.steps) refl

pub returns-in-None : goal.returns-in-None
returns-in-None g c = rw (← c.iter.ensures, c.in-None.ensures.steps.0) refl
