use Rattle.std.proofs.Common.{sym}
use Rattle.cp_objects.specs.Objects.{ends_one, none_left, objects_of}
use Rattle.cp_objects.proofs.Ending.{first_there}
use Rattle.cp_objects.proofs.objects.Objects.end_all.Goals as goal

pub loop-init : goal.loop-init
loop-init g c = λ last ends. ends

pub end-requires : goal.end-requires
end-requires g c = first_there c.loop.self.members c.in-Some.number (sym c.in-Some.ensures)

pub loop-preserved : goal.loop-preserved
loop-preserved g c = λ last ends. c.loop.invariant last (ends_one c.in-Some.number c.in_ok-end.field-0 (sym c.in-Some.ensures) c.in_ok-end.ensures ends)

pub returns-in_default : goal.returns-in_default
returns-in_default g c = c.loop.invariant (objects_of c.loop.self) (none_left (sym c.in_default.ensures))
