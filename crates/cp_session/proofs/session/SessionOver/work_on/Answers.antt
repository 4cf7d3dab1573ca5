use Rattle.std.proofs.Common.{refl}
use Rattle.cp_session.proofs.session.SessionOver.work_on.Goals as goal

pub returns-in-Ok-clause-works : goal.returns-in-Ok-clause-works
returns-in-Ok-clause-works g c = record { at = c.set_now.new.self; times = c.set_now.ensures; works = c.in-Ok.ensures.works; same = refl }

pub returns-in-Err-clause-unworked : goal.returns-in-Err-clause-unworked
returns-in-Err-clause-unworked g c = record { lives = c.poll.ensures.lives; limits = refl; progress = c.fail.ensures }
