use Rattle.std.proofs.Common.{refl, sym}
use Rattle.cp_dispatch.specs.GivingUp.{is_for_nobody, is_for_somebody}
use Rattle.cp_dispatch.proofs.Living.{lives_none}
use Rattle.cp_dispatch.proofs.Working.{after_ok}
use Rattle.cp_dispatch.proofs.dispatcher.Dispatcher.tell_late.Goals as goal

pub returns-then-not-is_finished-clause-done : goal.returns-then-not-is_finished-clause-done
returns-then-not-is_finished-clause-done g c = is_for_somebody (sym c.if-not-is_finished.ensures) refl refl

pub returns-then-not-is_finished-clause-lives : goal.returns-then-not-is_finished-clause-lives
returns-then-not-is_finished-clause-lives g c = lives_none c.args.connection.now

pub returns-clause-done : goal.returns-clause-done
returns-clause-done g c = after_ok c.tell_owing.result c.tell_owing.ensures.done (λ tells. is_for_nobody (sym c.if-not-is_finished.ensures) tells)
