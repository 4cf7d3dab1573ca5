use Rattle.cp_dispatch.specs.WorkOf.{work_of}
use Rattle.cp_dispatch.proofs.Living.{lives_both}
use Rattle.cp_session.proofs.Deciding.{after_ok}
use Rattle.cp_session.specs.Service.{service_of}
use Rattle.cp_session.proofs.endpoint.Endpoint.round.Goals as goal

pub returns-in_err-release_idle-clause-lives : goal.returns-in_err-release_idle-clause-lives
returns-in_err-release_idle-clause-lives g c = lives_both c.round.ensures.lives c.release_idle.ensures.lives

pub returns-clause-polls : goal.returns-clause-polls
returns-clause-polls g c =
    after_ok c.sweep_objects.result c.sweep_objects.ensures.sweeps
    (λ sweeps. record {
      gave = _;
      work = work_of c.round.new.self c.round.new.connection;
      between = c.round.new.objects;
      released = service_of c.release_idle.new.self;
      rounds = c.in_ok-self.ensures.done;
      seeks = c.in_ok-release_idle.ensures.seeks;
      sweeps = sweeps;
      lives = lives_both (lives_both c.round.ensures.lives c.release_idle.ensures.lives) c.sweep_objects.ensures.lives;
    })

pub returns-clause-lives : goal.returns-clause-lives
returns-clause-lives g c = lives_both (lives_both c.round.ensures.lives c.release_idle.ensures.lives) c.sweep_objects.ensures.lives
