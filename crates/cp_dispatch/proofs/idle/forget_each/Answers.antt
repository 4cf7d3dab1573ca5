use Rattle.std.proofs.Common.{refl}
use Rattle.std.proofs.Math.ListN.{drop_of_length-le}
use Rattle.cp_dispatch.proofs.Dropping.{forgets_next}
use Rattle.cp_dispatch.proofs.Living.{lives_none, lives_both}
use Rattle.cp_dispatch.proofs.idle.forget_each.Goals as goal

pub loop-id-init : goal.loop-id-init
loop-id-init g c = (λ last others rest. rest, lives_none c.args.connection.now)

pub returns-in_err-forget-clause-lives : goal.returns-in_err-forget-clause-lives
returns-in_err-forget-clause-lives g c = lives_both c.loop-id.invariant.1 c.forget.ensures.lives

pub returns-clause-done : goal.returns-clause-done
returns-clause-done g c = c.loop-id.invariant.0 _ _ (rw (drop_of_length-le c.args.ids.now c.loop-id-test.false) (refl, refl))

pub returns-clause-lives : goal.returns-clause-lives
returns-clause-lives g c = c.loop-id.invariant.1

pub loop-id-preserved : goal.loop-id-preserved
loop-id-preserved g c = (
  λ last others rest.
      c.loop-id.invariant.0 last others
      (forgets_next g.H.ObjectTable.table c.args.ids.now c.loop-id.id-index _ last others c.loop-id-test.true c.in_ok-forget.ensures.done rest),
  lives_both c.loop-id.invariant.1 c.forget.ensures.lives,
)
