use Rattle.std.proofs.Common.{length}
use Rattle.cp_recordings.proofs.session.Track.hear.Given as goal

abbrev pub decreases-taking : goal.decreases-taking
decreases-taking g l = length l.left
