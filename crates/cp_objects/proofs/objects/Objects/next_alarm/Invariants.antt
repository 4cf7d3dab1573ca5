use Rattle.std.proofs.Common.{◌≡◌, None}
use Rattle.std.specs.FinMap.{entries}
use Rattle.cp_objects.specs.Objects.{next_alarm}
use Rattle.cp_objects.proofs.objects.Objects.next_alarm.Given as goal

-- the first so far, with the rest, is the first of all
abbrev pub invariant-loop-member : goal.invariant-loop-member
invariant-loop-member g l = next_alarm l.now l.first l.member-iterator ≡ next_alarm l.now None (entries l.self.members)
