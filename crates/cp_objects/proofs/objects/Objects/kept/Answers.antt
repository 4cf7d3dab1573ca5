use Rattle.std.specs.FinMap.{values}
use Rattle.cp_objects.proofs.Sets.{kept_first, kept_next}
use Rattle.cp_objects.proofs.objects.Objects.kept.Goals as goal

pub loop-member-init : goal.loop-member-init
loop-member-init g c =
    let all = rw c.new-kept.ensures at c.in_ok-insert_makers.ensures in
    λ k. rw (c.into_iter-member-iterator.ensures.into_iter_gives, c.iter-member-items.ensures) (kept_first (values c.args.self.now.promises.makers) _ k _ all)

pub loop-member-preserved : goal.loop-member-preserved
loop-member-preserved g c = λ k. kept_next _ _ _ k _ _ (rw c.numbers.ensures at c.in_ok-insert_each.ensures) (rw c.in-Some.ensures.steps at (c.loop-member.invariant k))
