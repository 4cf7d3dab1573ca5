use Rattle.std.proofs.Common.{refl, arith}
use Rattle.cp_dispatch.specs.Work.{is_held, is_given, is_free}
use Rattle.cp_dispatch.proofs.Living.{lives_none}
use Rattle.cp_dispatch.proofs.Working.{after_ok}
use Rattle.cp_dispatch.proofs.dispatcher.Dispatcher.release_unheld.Goals as goal

pub returns-then-of-gt0-clause-done : goal.returns-then-of-gt0-clause-done
returns-then-of-gt0-clause-done c = is_held (omega (arith, c.if-of-gt0.true, c.of.ensures)) refl

pub returns-then-of-gt0-clause-lives : goal.returns-then-of-gt0-clause-lives
returns-then-of-gt0-clause-lives c = lives_none c.args.connection.now

pub returns-then-of-gt0-2-clause-done : goal.returns-then-of-gt0-2-clause-done
returns-then-of-gt0-2-clause-done c = is_given (omega (arith, c.if-of-gt0-2.true, c.of-2.ensures)) refl

pub returns-then-of-gt0-2-clause-lives : goal.returns-then-of-gt0-2-clause-lives
returns-then-of-gt0-2-clause-lives c = lives_none c.args.connection.now

pub returns-clause-done : goal.returns-clause-done
returns-clause-done c =
    after_ok c.release.result c.release.ensures.done
    (λ tried. is_free (omega (arith, c.if-of-gt0.false, c.of.ensures)) (omega (arith, c.if-of-gt0-2.false, c.of-2.ensures)) tried)
