use Rattle.std.proofs.Common.{refl, false, ◌||◌}
use Rattle.std.proofs.Math.Bool.{or_assoc}
use Rattle.cp_dispatch.specs.Rounds.{none_left, has_ended, polls}
use Rattle.cp_dispatch.proofs.Living.{lives_none, lives_both}
use Rattle.cp_dispatch.proofs.Working.{so_far, not_some}
use Rattle.cp_dispatch.proofs.dispatcher.Dispatcher.poll_each.Goals as goal

pub loop-init : goal.loop-init
loop-init g c = (λ more last others rest. rest, lives_none c.args.connection.now)

pub returns-then-has_ended-clause-done : goal.returns-then-has_ended-clause-done
returns-then-has_ended-clause-done g c = so_far c.loop.gave (c.loop.invariant.0 false _ _ (has_ended (c.if-has_ended.ensures.0 refl)))

pub returns-then-has_ended-clause-lives : goal.returns-then-has_ended-clause-lives
returns-then-has_ended-clause-lives g c = c.loop.invariant.1

pub returns-in_default-clause-done : goal.returns-in_default-clause-done
returns-in_default-clause-done g c = so_far c.loop.gave (c.loop.invariant.0 false _ _ (none_left c.in_default.ensures))

pub returns-in_default-clause-lives : goal.returns-in_default-clause-lives
returns-in_default-clause-lives g c = c.loop.invariant.1

pub returns-then-not-has-clause-lives : goal.returns-then-not-has-clause-lives
returns-then-not-has-clause-lives g c = c.loop.invariant.1

pub returns-in_err-said-clause-lives : goal.returns-in_err-said-clause-lives
returns-in_err-said-clause-lives g c = c.loop.invariant.1

pub returns-in_err-settled-clause-lives : goal.returns-in_err-settled-clause-lives
returns-in_err-settled-clause-lives g c = lives_both c.loop.invariant.1 c.with_promise_requests_kept.ensures.lives

pub returns-in_err-gave-clause-lives : goal.returns-in_err-gave-clause-lives
returns-in_err-gave-clause-lives g c = lives_both (lives_both c.loop.invariant.1 c.with_promise_requests_kept.ensures.lives) c.settle.ensures.lives

pub returns-in_err-make_calls-clause-lives : goal.returns-in_err-make_calls-clause-lives
returns-in_err-make_calls-clause-lives g c = lives_both (lives_both (lives_both c.loop.invariant.1 c.with_promise_requests_kept.ensures.lives) c.settle.ensures.lives) c.make_calls.ensures.lives

pub returns-in_err-work_off-clause-lives : goal.returns-in_err-work_off-clause-lives
returns-in_err-work_off-clause-lives g c = lives_both (lives_both (lives_both (lives_both c.loop.invariant.1 c.with_promise_requests_kept.ensures.lives) c.settle.ensures.lives) c.make_calls.ensures.lives) c.work_off.ensures.lives

pub returns-in_default-checked_add-clause-lives : goal.returns-in_default-checked_add-clause-lives
returns-in_default-checked_add-clause-lives g c = lives_both (lives_both (lives_both (lives_both c.loop.invariant.1 c.with_promise_requests_kept.ensures.lives) c.settle.ensures.lives) c.make_calls.ensures.lives) c.work_off.ensures.lives

pub returns-clause-lives : goal.returns-clause-lives
returns-clause-lives g c = c.loop.invariant.1

pub loop-preserved : goal.loop-preserved
loop-preserved g c =
    let first = c.in_ok-gave.field-0 in
    let open_yet = not_some _ false c.if-has_ended.ensures refl in (
      λ more last others rest.
          rw (or_assoc c.loop.gave first more) (c.loop.invariant.0 (first || more) last others (polls {link = c.with_promise_requests_kept.new.connection} c.in-Some.number c.in_ok-said.said first more open_yet c.in-Some.ensures c.in_ok-said.ensures c.in_ok-settled.ensures.done (rw c.in_ok-settled.ensures.same at c.in_ok-gave.ensures.done) c.in_ok-make_calls.ensures.done c.in_ok-work_off.ensures.done (rw c.in-Some-checked_add.ensures.1 at rest) refl)),
      lives_both (lives_both (lives_both (lives_both c.loop.invariant.1 c.in_ok-settled.ensures.lives) c.in_ok-gave.ensures.lives) c.in_ok-make_calls.ensures.lives) c.in_ok-work_off.ensures.lives,
    )
