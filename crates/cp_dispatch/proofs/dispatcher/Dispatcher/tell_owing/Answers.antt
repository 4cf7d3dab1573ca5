use Rattle.std.proofs.Common.{refl, sym, ◌∙◌}
use Rattle.cp_dispatch.specs.GivingUp.{is_not_owed, is_owed}
use Rattle.cp_dispatch.specs.WorkOf.{work_of}
use Rattle.cp_dispatch.proofs.Awaiting.{owes_not}
use Rattle.cp_dispatch.proofs.Living.{lives_none}
use Rattle.cp_dispatch.proofs.dispatcher.Dispatcher.tell_owing.Goals as goal

pub returns-in_default-clause-done : goal.returns-in_default-clause-done
returns-in_default-clause-done g c =
    let none = sym (rw c.key_of.ensures at c.remove.ensures.value) ∙ c.in_default.is in
    is_not_owed none (owes_not (work_of c.args.self.now c.args.connection.now) _ c.remove.new.self none (rw c.key_of.ensures at c.remove.ensures.removed)) refl

pub returns-in_default-clause-lives : goal.returns-in_default-clause-lives
returns-in_default-clause-lives g c = lives_none c.args.connection.now

pub returns-in_err-told-clause-lives : goal.returns-in_err-told-clause-lives
returns-in_err-told-clause-lives g c = lives_none c.args.connection.now

pub returns-clause-done : goal.returns-clause-done
returns-clause-done g c =
    is_owed c.in-Some.owed c.in_ok-told.told c.with_promise_requests_kept.new.connection (sym (rw c.key_of.ensures at c.in-Some.ensures.value)) c.in_ok-told.ensures
    c.in_ok-with_promise_requests_kept.ensures.done (rw (c.remove.ensures.removed, c.key_of.ensures) refl)
