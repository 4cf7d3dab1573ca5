use Rattle.std.proofs.Common.{refl}
use Rattle.cp_dispatch.specs.Canceling.{by_none, by_object}
use Rattle.cp_dispatch.specs.WorkOf.{work_of}
use Rattle.cp_dispatch.proofs.Living.{lives_none, lives_both}
use Rattle.cp_dispatch.proofs.Working.{after_ok}
use Rattle.cp_dispatch.proofs.dispatcher.Dispatcher.tell_cancel.Goals as goal

pub returns-in_err-told-clause-lives : goal.returns-in_err-told-clause-lives
returns-in_err-told-clause-lives g c = lives_none c.args.connection.now

pub returns-in_default-clause-done : goal.returns-in_default-clause-done
returns-in_default-clause-done g c = by_none (rw c.in_default.is at c.in_ok-told.ensures) refl

pub returns-in_default-clause-lives : goal.returns-in_default-clause-lives
returns-in_default-clause-lives g c = lives_none c.args.connection.now

pub returns-in_err-make_calls-clause-lives : goal.returns-in_err-make_calls-clause-lives
returns-in_err-make_calls-clause-lives g c = lives_both c.with_promise_requests_kept.ensures.lives c.make_calls.ensures.lives

pub returns-clause-done : goal.returns-clause-done
returns-clause-done g c =
    after_ok c.work_off.result c.work_off.ensures.done
    (λ works. by_object (work_of c.make_calls.new.self c.make_calls.new.connection) c.with_promise_requests_kept.new.connection c.in-Some.number (rw c.in-Some.is at c.in_ok-told.ensures)
    c.in_ok-number.ensures.done (rw c.in_ok-number.ensures.same at c.in_ok-make_calls.ensures.done) works)

pub returns-clause-lives : goal.returns-clause-lives
returns-clause-lives g c = lives_both (lives_both c.with_promise_requests_kept.ensures.lives c.make_calls.ensures.lives) c.work_off.ensures.lives
