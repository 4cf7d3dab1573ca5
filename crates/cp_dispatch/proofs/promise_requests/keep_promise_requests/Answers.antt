use Rattle.cp_dispatch.specs.PromiseRequests.{keeps, none_left}
use Rattle.cp_dispatch.proofs.Living.{lives_none, lives_both}
use Rattle.cp_dispatch.proofs.promise_requests.keep_promise_requests.Goals as goal

pub loop-init : goal.loop-init
loop-init g c = (λ last others rest. rest, lives_none c.args.connection.now)

pub returns-in_default-clause-done : goal.returns-in_default-clause-done
returns-in_default-clause-done g c = c.loop.invariant.0 _ _ (none_left c.in_default.ensures)

pub returns-in_default-clause-lives : goal.returns-in_default-clause-lives
returns-in_default-clause-lives g c = c.loop.invariant.1

pub returns-in_err-keep_promise_request-clause-lives : goal.returns-in_err-keep_promise_request-clause-lives
returns-in_err-keep_promise_request-clause-lives g c = lives_both c.loop.invariant.1 c.keep_promise_request.ensures.lives

pub loop-preserved : goal.loop-preserved
loop-preserved g c = (
  λ last others rest. c.loop.invariant.0 last others (keeps c.in-Some.promise_request c.in-Some.ensures c.in_ok-keep_promise_request.ensures.done rest),
  lives_both c.loop.invariant.1 c.keep_promise_request.ensures.lives,
)

pub returns-clause-lives : goal.returns-clause-lives
returns-clause-lives g c = c.loop.invariant.1
