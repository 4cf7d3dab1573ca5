use Rattle.cp_dispatch.proofs.Living.{lives_none, lives_both}
use Rattle.cp_dispatch.proofs.Working.{after_ok}
use Rattle.cp_dispatch.proofs.dispatcher.Dispatcher.take_call.Goals as goal

pub returns-in_err-said-clause-lives : goal.returns-in_err-said-clause-lives
returns-in_err-said-clause-lives g c = lives_none c.args.connection.now

pub returns-in_err-reply-2-clause-lives : goal.returns-in_err-reply-2-clause-lives
returns-in_err-reply-2-clause-lives g c = lives_both c.with_promise_requests_kept.ensures.lives c.reply.ensures.lives

pub returns-in_err-tell_late-clause-lives : goal.returns-in_err-tell_late-clause-lives
returns-in_err-tell_late-clause-lives g c = lives_both (lives_both c.with_promise_requests_kept.ensures.lives c.reply.ensures.lives) c.tell_late.ensures.lives

pub returns-clause-done : goal.returns-clause-done
returns-clause-done g c =
    after_ok c.make_calls.result c.make_calls.ensures.done
    (λ calls. (
      _,
      _,
      _,
      _,
      c.with_promise_requests_kept.new.connection,
      _,
      _,
      _,
      c.in_ok-said.ensures c.args.connection.now,
      c.in_ok-reply.ensures.done,
      rw c.in_ok-reply.ensures.same at c.in_ok-reply-2.ensures.done,
      c.in_ok-tell_late.ensures.done,
      calls,
    ))

pub returns-clause-lives : goal.returns-clause-lives
returns-clause-lives g c =
    lives_both (lives_both (lives_both c.with_promise_requests_kept.ensures.lives c.reply.ensures.lives) c.tell_late.ensures.lives) c.make_calls.ensures.lives
