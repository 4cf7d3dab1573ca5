use Rattle.std.proofs.Common.{false, refl}
use Rattle.cp_dispatch.specs.Calling.{next_calls}
use Rattle.cp_dispatch.proofs.Living.{lives_none}
use Rattle.cp_dispatch.proofs.Working.{if_both, not_some}
use Rattle.cp_dispatch.proofs.dispatcher.Dispatcher.next_call.Goals as goal

pub returns-then-not-self-clause-lives : goal.returns-then-not-self-clause-lives
returns-then-not-self-clause-lives g c = lives_none c.args.connection.now

pub returns-in_err-next_call-clause-lives : goal.returns-in_err-next_call-clause-lives
returns-in_err-next_call-clause-lives g c = lives_none c.args.connection.now

pub returns-clause-done : goal.returns-clause-done
returns-clause-done g c =
    let open_yet = not_some _ false c.if-has_ended.ensures refl in
    if_both c.with_promise_requests_kept.result c.with_promise_requests_kept.ensures.same c.with_promise_requests_kept.ensures.done
    (λ call is kept. rw is (next_calls c.with_promise_requests_kept.new.connection c.if-not-self.false open_yet c.in_ok-next_call.ensures kept refl))
