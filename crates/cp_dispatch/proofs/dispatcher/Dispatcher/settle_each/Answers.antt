use Rattle.cp_dispatch.specs.Calling.{none_left, settles}
use Rattle.cp_dispatch.proofs.Living.{lives_none, lives_both}
use Rattle.cp_dispatch.proofs.dispatcher.Dispatcher.settle_each.Goals as goal

pub loop-init : goal.loop-init
loop-init g c = (λ last others rest. rest, lives_none c.args.connection.now)

pub returns-in_err-settled-clause-lives : goal.returns-in_err-settled-clause-lives
returns-in_err-settled-clause-lives g c = c.loop.invariant.1

pub returns-in_default-clause-done : goal.returns-in_default-clause-done
returns-in_default-clause-done g c = c.loop.invariant.0 _ _ (none_left (rw c.in_default.is at c.in_ok-settled.ensures))

pub returns-in_default-clause-lives : goal.returns-in_default-clause-lives
returns-in_default-clause-lives g c = c.loop.invariant.1

pub returns-in_err-settle-clause-lives : goal.returns-in_err-settle-clause-lives
returns-in_err-settle-clause-lives g c = lives_both c.loop.invariant.1 c.settle.ensures.lives

pub loop-preserved : goal.loop-preserved
loop-preserved g c = (
  λ last others rest. c.loop.invariant.0 last others (settles c.in-Some.settled _ (rw c.in-Some.is at c.in_ok-settled.ensures) c.in_ok-settle.ensures.done rest),
  lives_both c.loop.invariant.1 c.settle.ensures.lives,
)

pub returns-clause-lives : goal.returns-clause-lives
returns-clause-lives g c = c.loop.invariant.1
