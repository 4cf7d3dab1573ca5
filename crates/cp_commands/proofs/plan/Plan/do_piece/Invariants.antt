use Rattle.std.proofs.Common.{length}
use Rattle.cp_commands.proofs.plan.Plan.do_piece.Given as goal

abbrev pub decreases-taking : goal.decreases-taking
decreases-taking g l = length l.left
