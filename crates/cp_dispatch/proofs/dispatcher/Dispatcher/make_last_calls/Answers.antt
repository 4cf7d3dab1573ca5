use Rattle.cp_dispatch.proofs.Dropping.{makes_no_more, makes_next}
use Rattle.cp_dispatch.proofs.Living.{lives_none, lives_both}
use Rattle.cp_dispatch.proofs.dispatcher.Dispatcher.make_last_calls.Goals as goal

pub loop-init : goal.loop-init
loop-init g c = (λ last others rest. rest, lives_none c.args.connection.now)

pub returns-in_default-clause-done : goal.returns-in_default-clause-done
returns-in_default-clause-done g c = c.loop.invariant.0 _ _ (makes_no_more g.H.ObjectTable.table c.args.number c.loop.next_calls _ _ c.in_default.ensures.first)

pub returns-in_default-clause-lives : goal.returns-in_default-clause-lives
returns-in_default-clause-lives g c = c.loop.invariant.1

pub returns-in_err-make_last_call-clause-lives : goal.returns-in_err-make_last_call-clause-lives
returns-in_err-make_last_call-clause-lives g c = lives_both c.loop.invariant.1 c.make_last_call.ensures.lives

pub loop-preserved : goal.loop-preserved
loop-preserved g c = (
  λ last others rest.
      c.loop.invariant.0 last others
      (makes_next g.H.ObjectTable.table c.args.number c.loop.next_calls c.pop.new.self c.in-Some.next_call last others c.in-Some.ensures.first c.in-Some.ensures.rest c.in_ok-make_last_call.ensures.done rest),
  lives_both c.loop.invariant.1 c.make_last_call.ensures.lives,
)

pub returns-clause-lives : goal.returns-clause-lives
returns-clause-lives g c = c.loop.invariant.1
