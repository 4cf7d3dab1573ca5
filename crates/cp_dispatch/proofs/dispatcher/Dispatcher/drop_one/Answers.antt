use Rattle.std.proofs.Common.{sym, ◌∙◌}
use Rattle.cp_dispatch.proofs.Dropping.{goes_with}
use Rattle.cp_dispatch.proofs.Living.{lives_none, lives_both}
use Rattle.cp_dispatch.proofs.Working.{after_ok}
use Rattle.cp_dispatch.proofs.dispatcher.Dispatcher.drop_one.Goals as goal

pub returns-then-uses_object-clause-lives : goal.returns-then-uses_object-clause-lives
returns-then-uses_object-clause-lives g c = lives_none c.args.connection.now

pub returns-in_err-said-clause-lives : goal.returns-in_err-said-clause-lives
returns-in_err-said-clause-lives g c = lives_none c.args.connection.now

pub returns-in_err-make_last_calls-clause-lives : goal.returns-in_err-make_last_calls-clause-lives
returns-in_err-make_last_calls-clause-lives g c = lives_both c.with_promise_requests_kept.ensures.lives c.make_last_calls.ensures.lives

pub returns-in_err-settle_each-clause-lives : goal.returns-in_err-settle_each-clause-lives
returns-in_err-settle_each-clause-lives g c =
    lives_both (lives_both c.with_promise_requests_kept.ensures.lives c.make_last_calls.ensures.lives) c.settle_each.ensures.lives

pub returns-clause-done : goal.returns-clause-done
returns-clause-done g c =
    after_ok c.give_up.result c.give_up.ensures
    (λ gives. goes_with g.H.ObjectTable.table c.args.number c.in_ok-said.said _ c.with_promise_requests_kept.new.connection c.in_ok-imports.ensures.same
    (sym c.uses_object.ensures ∙ c.if-uses_object.false) c.in_ok-said.ensures c.in_ok-imports.ensures.done c.in_ok-make_last_calls.ensures.done c.in_ok-settle_each.ensures.done
    (gives c.settle_each.new.connection))

pub returns-clause-lives : goal.returns-clause-lives
returns-clause-lives g c = lives_both (lives_both c.with_promise_requests_kept.ensures.lives c.make_last_calls.ensures.lives) c.settle_each.ensures.lives
