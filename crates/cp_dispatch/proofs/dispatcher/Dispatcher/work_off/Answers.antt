use Rattle.std.proofs.Common.{Some, None}
use Rattle.cp_dispatch.specs.Rounds.{handles}
use Rattle.cp_dispatch.specs.WorkOf.{work_of}
use Rattle.cp_dispatch.proofs.Living.{lives_none, lives_next, lives_both}
use Rattle.cp_dispatch.proofs.Working.{works_off_none}
use Rattle.cp_dispatch.proofs.dispatcher.Dispatcher.work_off.Goals as goal

pub loop-init : goal.loop-init
loop-init g c = (λ last others rest. rest, lives_none c.args.connection.now)

pub returns-in_default-clause-done : goal.returns-in_default-clause-done
returns-in_default-clause-done g c = c.loop.invariant.0 _ _ (works_off_none (work_of c.loop.self c.loop.connection) c.next.new.self _ c.in_default.ensures.1 c.in_default.ensures.0)

pub returns-in_default-clause-lives : goal.returns-in_default-clause-lives
returns-in_default-clause-lives g c = lives_both c.loop.invariant.1 (lives_next None c.in_default.ensures)

pub returns-in_err-handle-clause-lives : goal.returns-in_err-handle-clause-lives
returns-in_err-handle-clause-lives g c = lives_both (lives_both c.loop.invariant.1 (lives_next (Some c.in-Some.happening) c.in-Some.ensures)) c.in_err-handle.ensures.lives

pub loop-preserved : goal.loop-preserved
loop-preserved g c = (
  λ last others rest. c.loop.invariant.0 last others (handles c.in-Some.happening c.next.new.self c.in-Some.ensures c.in_ok-handle.ensures.done rest),
  lives_both (lives_both c.loop.invariant.1 (lives_next (Some c.in-Some.happening) c.in-Some.ensures)) c.in_ok-handle.ensures.lives,
)

pub returns-clause-lives : goal.returns-clause-lives
returns-clause-lives g c = c.loop.invariant.1
