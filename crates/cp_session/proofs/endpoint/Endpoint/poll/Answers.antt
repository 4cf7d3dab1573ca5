use Rattle.cp_dispatch.specs.WorkOf.{work_of}
use Rattle.cp_dispatch.proofs.Living.{lives_both}
use Rattle.cp_session.specs.Service.{service_of}
use Rattle.cp_session.proofs.Deciding.{after_ok}
use Rattle.cp_session.proofs.endpoint.Endpoint.poll.Goals as goal

pub returns-clause-works : goal.returns-clause-works
returns-clause-works g c =
    after_ok c.count_poll.result c.count_poll.ensures.counts
    (λ counts. record {
      work = work_of c.work_off.new.self c.work_off.new.connection;
      between = c.work_off.new.objects;
      polled = service_of c.round.new.self;
      works = c.in_ok-work_off.ensures.done;
      polls = c.in_ok-round.ensures.polls;
      counts = rw (c.has_acted-acted.ensures, c.held-waiting.ensures.events, c.stats-sent.ensures) at counts;
      lives = rw c.count_poll.ensures.same (lives_both c.work_off.ensures.lives c.round.ensures.lives);
    })

pub returns-in_err-round-clause-lives : goal.returns-in_err-round-clause-lives
returns-in_err-round-clause-lives g c = lives_both c.work_off.ensures.lives c.round.ensures.lives

pub returns-clause-lives : goal.returns-clause-lives
returns-clause-lives g c = rw c.count_poll.ensures.same (lives_both c.work_off.ensures.lives c.round.ensures.lives)
