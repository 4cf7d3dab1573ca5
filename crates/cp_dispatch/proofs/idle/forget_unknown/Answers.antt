use Rattle.std.proofs.Common.{refl}
use Rattle.std.proofs.Math.ListN.{drop_of_length-le}
use Rattle.cp_dispatch.proofs.Dropping.{unknown_next}
use Rattle.cp_dispatch.proofs.Living.{lives_none, lives_both}
use Rattle.cp_dispatch.proofs.idle.forget_unknown.Goals as goal

pub loop-id-init : goal.loop-id-init
loop-id-init g c = (λ last rest. rest, lives_none c.args.connection.now)

pub returns-in_err-forget_if_unknown-clause-lives : goal.returns-in_err-forget_if_unknown-clause-lives
returns-in_err-forget_if_unknown-clause-lives g c = lives_both c.loop-id.invariant.1 c.forget_if_unknown.ensures.lives

pub returns-clause-done : goal.returns-clause-done
returns-clause-done g c = c.loop-id.invariant.0 _ (rw (drop_of_length-le c.args.ids.now c.loop-id-test.false) refl)

pub returns-clause-lives : goal.returns-clause-lives
returns-clause-lives g c = c.loop-id.invariant.1

pub loop-id-preserved : goal.loop-id-preserved
loop-id-preserved g c = (
  λ last rest.
      c.loop-id.invariant.0 last
      (unknown_next g.H.ObjectTable.table c.args.objects.now c.args.ids.now c.loop-id.id-index _ _ _ last c.loop-id-test.true c.in_ok-forget_if_unknown.ensures.done rest),
  lives_both c.loop-id.invariant.1 c.forget_if_unknown.ensures.lives,
)
