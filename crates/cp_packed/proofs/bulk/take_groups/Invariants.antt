use Rattle.std.proofs.Common.{length}
use Rattle.cp_packed.specs.Groups.{TakesGroups}
use Rattle.cp_packed.proofs.bulk.take_groups.Given as goal

abbrev pub invariant-taking : goal.invariant-taking
invariant-taking l = TakesGroups l.most l.fn.words.items l.fn.run l.fn.left l.words.items l.run l.left

abbrev pub decreases-taking : goal.decreases-taking
decreases-taking l = length l.left
