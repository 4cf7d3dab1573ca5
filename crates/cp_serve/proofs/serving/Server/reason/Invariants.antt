use Rattle.std.proofs.Common.{◌≡◌, length}
use Rattle.cp_serve.specs.Matching.{reason_in}
use Rattle.cp_serve.specs.Reached.{owed}
use Rattle.cp_serve.proofs.serving.Server.reason.Given as goal

-- the events that were taken give no reason
abbrev pub invariant-noting : goal.invariant-noting
invariant-noting l = reason_in (owed l.self).notices ≡ reason_in (owed l.fn.self).notices

abbrev pub decreases-noting : goal.decreases-noting
decreases-noting l = length l.self.objects.notices.items
