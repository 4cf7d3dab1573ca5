use Rattle.std.proofs.Common.{refl}
use Rattle.cp_dispatch.proofs.Living.{lives_none}
use Rattle.cp_session.specs.State.{link_of, state_of}
use Rattle.cp_session.proofs.Deciding.{after_ok}
use Rattle.cp_session.proofs.session.SessionOver.act_in_time.Goals as goal

pub returns-in_err-wake_due-clause-lives : goal.returns-in_err-wake_due-clause-lives
returns-in_err-wake_due-clause-lives g c = lives_none (link_of (state_of c.args.self.now))

pub returns-clause-acts : goal.returns-clause-acts
returns-clause-acts g c =
    after_ok c.tick.result c.tick.ensures.sweeps
    (λ sweeps. record {
      at = c.set_now.new.self;
      woken = c.wake_due.new.self;
      times = c.set_now.ensures;
      wakes = c.in_ok-wake_due.ensures;
      sweeps = rw c.stir.ensures at sweeps;
      same = refl;
      lives = rw c.stir.ensures at c.tick.ensures.lives;
    })

pub returns-clause-lives : goal.returns-clause-lives
returns-clause-lives g c = rw c.stir.ensures at c.tick.ensures.lives
