use Rattle.std.proofs.Common.{refl, arith, ap, length}
use Rattle.std.proofs.lemmas.List.{nil_from_length}
use Rattle.cp_dispatch.specs.Dropping.{looks_at_none, looks_at_each}
use Rattle.cp_dispatch.specs.WorkOf.{work_of}
use Rattle.cp_dispatch.proofs.Living.{lives_both, lives_none}
use Rattle.cp_dispatch.proofs.Working.{after_ok}
use Rattle.cp_dispatch.proofs.dispatcher.Dispatcher.drop_idle.Goals as goal

pub returns-then-held-gt0-clause-done : goal.returns-then-held-gt0-clause-done
returns-then-held-gt0-clause-done g c = looks_at_none (λ e. omega (arith, c.if-held-gt0.true, c.held.ensures.events, ap (λ xs. length xs) e)) refl refl

pub returns-then-held-gt0-clause-lives : goal.returns-then-held-gt0-clause-lives
returns-then-held-gt0-clause-lives g c = lives_none c.args.connection.now

pub returns-in_err-loose-clause-lives : goal.returns-in_err-loose-clause-lives
returns-in_err-loose-clause-lives g c = lives_none c.args.connection.now

pub returns-in_err-drop_each-clause-lives : goal.returns-in_err-drop_each-clause-lives
returns-in_err-drop_each-clause-lives g c = lives_both c.forget_each.ensures.lives c.drop_each.ensures.lives

pub returns-clause-done : goal.returns-clause-done
returns-clause-done g c =
    let link = c.forget_each.new.connection in
    after_ok c.release_all.result c.release_all.ensures.done
    (λ released. looks_at_each link (work_of c.drop_each.new.self c.drop_each.new.connection) c.forget_each.new.objects
    (nil_from_length _ (omega (arith, c.if-held-gt0.false, c.held.ensures.events)))
    (rw (c.ids.ensures, c.in_ok-loose.ensures) at c.in_ok-forget_each.ensures.done) (rw (c.ids-2.ensures, c.in_ok-idle.ensures) at c.in_ok-drop_each.ensures.done) released)

pub returns-clause-lives : goal.returns-clause-lives
returns-clause-lives g c = lives_both (lives_both c.forget_each.ensures.lives c.drop_each.ensures.lives) c.release_all.ensures.lives
