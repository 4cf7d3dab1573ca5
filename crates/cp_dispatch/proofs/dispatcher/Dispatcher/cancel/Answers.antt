use Rattle.std.proofs.Common.{refl, sym, ◌∙◌}
use Rattle.cp_dispatch.specs.Canceling.{gives_none_up, is_owed}
use Rattle.cp_dispatch.proofs.Awaiting.{cancels_stranger}
use Rattle.cp_dispatch.proofs.Living.{lives_none}
use Rattle.cp_dispatch.proofs.Working.{after_ok}
use Rattle.cp_dispatch.proofs.dispatcher.Dispatcher.cancel.Goals as goal

pub returns-in_default-clause-done : goal.returns-in_default-clause-done
returns-in_default-clause-done g c = gives_none_up c.in_default.is refl refl

pub returns-in_default-clause-lives : goal.returns-in_default-clause-lives
returns-in_default-clause-lives g c = lives_none c.args.connection.now

pub returns-in_default-remove-clause-done : goal.returns-in_default-remove-clause-done
returns-in_default-remove-clause-done g c =
    cancels_stranger _ c.in-Some.origin c.remove.new.self c.in-Some.is
    (sym (rw c.key_of.ensures at c.remove.ensures.value) ∙ c.in_default-remove.is) (rw c.key_of.ensures at c.remove.ensures.removed)

pub returns-in_default-remove-clause-lives : goal.returns-in_default-remove-clause-lives
returns-in_default-remove-clause-lives g c = lives_none c.args.connection.now

pub returns-clause-done : goal.returns-clause-done
returns-clause-done g c =
    after_ok c.tell_cancel.result c.tell_cancel.ensures.done
    (λ told. is_owed c.in-Some.origin c.in-Some-remove.ticket c.in-Some.is (sym (rw c.key_of.ensures at c.in-Some-remove.ensures.value))
    (rw (c.remove.ensures.removed, c.key_of.ensures) at told))
