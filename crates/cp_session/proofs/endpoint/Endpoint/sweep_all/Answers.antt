use Rattle.std.proofs.Common.{refl}
use Rattle.cp_dispatch.specs.WorkOf.{work_of}
use Rattle.cp_dispatch.proofs.Living.{lives_both}
use Rattle.cp_session.proofs.endpoint.Endpoint.sweep_all.Goals as goal

pub returns-clause-sweeps : goal.returns-clause-sweeps
returns-clause-sweeps g c = record {
  left = work_of c.drop_idle.new.self c.drop_idle.new.connection;
  work = work_of c.work_off.new.self c.work_off.new.connection;
  between = c.drop_idle.new.objects;
  drops = c.in_ok-drop_idle.ensures.done;
  works = c.in_ok-work_off.ensures.done;
  is = rw (c.after-self.ensures, c.guests-before.ensures, c.guests.ensures, c.stats-messages.ensures) refl;
}

pub returns-in_err-work_off-clause-lives : goal.returns-in_err-work_off-clause-lives
returns-in_err-work_off-clause-lives g c = lives_both c.drop_idle.ensures.lives c.work_off.ensures.lives

pub returns-clause-lives : goal.returns-clause-lives
returns-clause-lives g c = lives_both c.drop_idle.ensures.lives c.work_off.ensures.lives
