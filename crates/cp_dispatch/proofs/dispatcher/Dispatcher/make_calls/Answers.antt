use Rattle.cp_dispatch.specs.Calling.{makes_none, makes_one}
use Rattle.cp_dispatch.proofs.Living.{lives_none, lives_both}
use Rattle.cp_dispatch.proofs.Working.{after_ok}
use Rattle.cp_dispatch.proofs.dispatcher.Dispatcher.make_calls.Goals as goal

pub loop-init : goal.loop-init
loop-init g c = (λ last others rest. rest, lives_none c.args.connection.now)

pub returns-in_err-next_call-clause-lives : goal.returns-in_err-next_call-clause-lives
returns-in_err-next_call-clause-lives g c = lives_both c.loop.invariant.1 c.next_call.ensures.lives

pub returns-in_err-cancel_each-clause-lives : goal.returns-in_err-cancel_each-clause-lives
returns-in_err-cancel_each-clause-lives g c = lives_both (lives_both c.loop.invariant.1 c.next_call.ensures.lives) c.cancel_each.ensures.lives

pub returns-in_default-clause-done : goal.returns-in_default-clause-done
returns-in_default-clause-done g c =
    after_ok c.settle_each.result c.settle_each.ensures.done
    (λ settles. c.loop.invariant.0 _ _ (makes_none (rw c.in_default.is at c.in_ok-next_call.ensures.done) c.in_ok-cancel_each.ensures.done settles))

pub returns-in_default-clause-lives : goal.returns-in_default-clause-lives
returns-in_default-clause-lives g c =
    lives_both (lives_both (lives_both c.loop.invariant.1 c.next_call.ensures.lives) c.cancel_each.ensures.lives) c.settle_each.ensures.lives

pub returns-in_err-make_call-clause-lives : goal.returns-in_err-make_call-clause-lives
returns-in_err-make_call-clause-lives g c = lives_both (lives_both c.loop.invariant.1 c.next_call.ensures.lives) c.make_call.ensures.lives

pub loop-preserved : goal.loop-preserved
loop-preserved g c = (
  λ last others rest.
      c.loop.invariant.0 last others
      (makes_one c.in-Some.next_call (rw c.in-Some.is at c.in_ok-next_call.ensures.done) (rw c.meant_call-meant.ensures at c.in_ok-make_call.ensures.done) rest),
  lives_both (lives_both c.loop.invariant.1 c.next_call.ensures.lives) c.make_call.ensures.lives,
)
