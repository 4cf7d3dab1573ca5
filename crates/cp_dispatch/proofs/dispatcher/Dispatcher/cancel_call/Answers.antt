use Rattle.std.proofs.Common.{refl, sym, ◌∙◌}
use Rattle.cp_dispatch.specs.GivingUp.{is_unknown, was_answered, finishes}
use Rattle.cp_dispatch.proofs.Living.{lives_none, lives_both}
use Rattle.cp_dispatch.proofs.Working.{after_ok}
use Rattle.cp_dispatch.proofs.dispatcher.Dispatcher.cancel_call.Goals as goal

pub returns-in_default-clause-done : goal.returns-in_default-clause-done
returns-in_default-clause-done g c = is_unknown (rw c.key_at-key.ensures at (sym c.get.ensures ∙ sym c.copied.ensures ∙ c.in_default.is)) refl refl

pub returns-in_default-clause-lives : goal.returns-in_default-clause-lives
returns-in_default-clause-lives g c = lives_none c.args.connection.now

pub returns-then-not-is_open-clause-done : goal.returns-then-not-is_open-clause-done
returns-then-not-is_open-clause-done g c = was_answered c.in-Some.question (rw c.key_at-key.ensures at (sym c.get.ensures ∙ sym c.copied.ensures ∙ c.in-Some.is)) (sym c.if-not-is_open.ensures) refl refl

pub returns-then-not-is_open-clause-lives : goal.returns-then-not-is_open-clause-lives
returns-then-not-is_open-clause-lives g c = lives_none c.args.connection.now

pub returns-clause-done : goal.returns-clause-done
returns-clause-done g c =
    after_ok c.tell_owing.result c.tell_owing.ensures.done
    (λ tells. finishes c.in-Some.question c.finish.new.connection (rw c.key_at-key.ensures at (sym c.get.ensures ∙ sym c.copied.ensures ∙ c.in-Some.is)) (sym c.if-not-is_open.ensures) c.wait_for_one_less.ensures c.in_ok-finish.ensures.done
    (rw (c.remove.ensures.removed, c.remove-2.ensures.removed, c.key_at-key.ensures) at tells))

pub returns-clause-lives : goal.returns-clause-lives
returns-clause-lives g c = lives_both c.finish.ensures.lives c.tell_owing.ensures.lives
