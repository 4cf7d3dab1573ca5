use Rattle.std.proofs.Common.{sym}
use Rattle.cp_objects.proofs.Finding.{one_more}
use Rattle.cp_objects.proofs.objects.Objects.idle.Goals as goal

pub loop-number-preserved-in-Continue-branch-2 : goal.loop-number-preserved-in-Continue-branch-2
loop-number-preserved-in-Continue-branch-2 g c =
    rw c.in_ok-push.ensures.items
    (one_more _ _ _ _ _ (sym (c.if-is_idle.ensures c.in_ok-kept.ensures)) (rw c.in-Some.ensures.steps at c.loop-number.invariant))
