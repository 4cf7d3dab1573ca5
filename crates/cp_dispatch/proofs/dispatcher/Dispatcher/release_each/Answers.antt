use Rattle.std.proofs.Common.{refl}
use Rattle.std.proofs.Math.ListN.{drop_of_length-le}
use Rattle.cp_dispatch.specs.WorkOf.{work_of}
use Rattle.cp_dispatch.proofs.Living.{lives_none, lives_both}
use Rattle.cp_dispatch.proofs.Working.{tries_next}
use Rattle.cp_dispatch.proofs.dispatcher.Dispatcher.release_each.Goals as goal

pub loop-import-init : goal.loop-import-init
loop-import-init c = (λ last rest. rest, lives_none c.args.connection.now)

pub returns-in_err-release_unheld-clause-lives : goal.returns-in_err-release_unheld-clause-lives
returns-in_err-release_unheld-clause-lives c = lives_both c.loop-import.invariant.1 c.in_err-release_unheld.ensures.lives

pub returns-clause-done : goal.returns-clause-done
returns-clause-done c = c.loop-import.invariant.0 (work_of c.loop-import.self c.loop-import.connection) (rw (drop_of_length-le c.args.imports.now c.loop-import-test.false) refl)

pub returns-clause-lives : goal.returns-clause-lives
returns-clause-lives c = c.loop-import.invariant.1

pub loop-import-preserved : goal.loop-import-preserved
loop-import-preserved c = (
  λ last rest. c.loop-import.invariant.0 last (tries_next c.args.imports.now c.loop-import.import-index _ last c.loop-import-test.true c.in_ok-release_unheld.ensures.done rest),
  lives_both c.loop-import.invariant.1 c.in_ok-release_unheld.ensures.lives,
)
