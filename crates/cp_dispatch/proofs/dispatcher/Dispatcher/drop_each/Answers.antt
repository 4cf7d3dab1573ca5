use Rattle.std.proofs.Common.{refl}
use Rattle.std.proofs.Math.ListN.{drop_of_length-le}
use Rattle.cp_dispatch.specs.WorkOf.{work_of}
use Rattle.cp_dispatch.proofs.Dropping.{loses_next}
use Rattle.cp_dispatch.proofs.Living.{lives_none, lives_both}
use Rattle.cp_dispatch.proofs.dispatcher.Dispatcher.drop_each.Goals as goal

pub loop-number-init : goal.loop-number-init
loop-number-init g c = (λ last others rest. rest, lives_none c.args.connection.now)

pub returns-in_err-drop_one-clause-lives : goal.returns-in_err-drop_one-clause-lives
returns-in_err-drop_one-clause-lives g c = lives_both c.loop-number.invariant.1 c.in_err-drop_one.ensures.lives

pub returns-clause-done : goal.returns-clause-done
returns-clause-done g c =
    c.loop-number.invariant.0 (work_of c.loop-number.self c.loop-number.connection) _ (rw (drop_of_length-le c.args.numbers.now c.loop-number-test.false) (refl, refl))

pub returns-clause-lives : goal.returns-clause-lives
returns-clause-lives g c = c.loop-number.invariant.1

pub loop-number-preserved : goal.loop-number-preserved
loop-number-preserved g c = (
  λ last others rest.
      c.loop-number.invariant.0 last others
      (loses_next g.H.ObjectTable.table c.args.numbers.now c.loop-number.number-index _ last others c.loop-number-test.true c.in_ok-drop_one.ensures.done rest),
  lives_both c.loop-number.invariant.1 c.in_ok-drop_one.ensures.lives,
)
