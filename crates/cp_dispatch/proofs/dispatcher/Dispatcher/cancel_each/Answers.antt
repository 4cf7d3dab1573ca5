use Rattle.cp_dispatch.specs.GivingUp.{none_left, cancels}
use Rattle.cp_dispatch.proofs.Living.{lives_none, lives_both}
use Rattle.cp_dispatch.proofs.dispatcher.Dispatcher.cancel_each.Goals as goal

pub loop-init : goal.loop-init
loop-init g c = (λ last others rest. rest, lives_none c.args.connection.now)

pub returns-in_default-clause-done : goal.returns-in_default-clause-done
returns-in_default-clause-done g c = c.loop.invariant.0 _ _ (none_left (rw c.in_default.is at c.next_canceled.ensures))

pub returns-in_default-clause-lives : goal.returns-in_default-clause-lives
returns-in_default-clause-lives g c = c.loop.invariant.1

pub returns-in_err-cancel_call-clause-lives : goal.returns-in_err-cancel_call-clause-lives
returns-in_err-cancel_call-clause-lives g c = lives_both c.loop.invariant.1 c.cancel_call.ensures.lives

pub loop-preserved : goal.loop-preserved
loop-preserved g c = (
  λ last others rest. c.loop.invariant.0 last others (cancels c.in-Some.call (rw c.in-Some.is at c.next_canceled.ensures) c.in_ok-cancel_call.ensures.done rest),
  lives_both c.loop.invariant.1 c.cancel_call.ensures.lives,
)

pub returns-clause-lives : goal.returns-clause-lives
returns-clause-lives g c = c.loop.invariant.1
