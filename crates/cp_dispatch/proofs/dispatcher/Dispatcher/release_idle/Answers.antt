use Rattle.std.proofs.Common.{refl, inl, inr, arith, ap, length}
use Rattle.std.proofs.lemmas.List.{nil_from_length}
use Rattle.cp_dispatch.specs.Idle.{none_sought, tries_each, none_named}
use Rattle.cp_dispatch.proofs.Living.{lives_none, lives_both, lives_idle}
use Rattle.cp_dispatch.proofs.Working.{after_ok}
use Rattle.cp_dispatch.proofs.dispatcher.Dispatcher.release_idle.Goals as goal

pub returns-then-not-are_counted : goal.returns-then-not-are_counted
returns-then-not-are_counted g c = record { done = none_sought (inl c.if-not-are_counted.true) refl; lives = lives_none c.args.connection.now }

pub returns-then-held-gt0 : goal.returns-then-held-gt0
returns-then-held-gt0 g c = record {
  done = none_sought (inr (λ e. omega (arith, c.if-held-gt0.true, c.held.ensures.events, ap (λ xs. length xs) e))) refl;
  lives = lives_none c.args.connection.now;
}

pub returns-in-Ok-clause-done : goal.returns-in-Ok-clause-done
returns-in-Ok-clause-done g c =
    let none = nil_from_length _ (omega (arith, c.if-held-gt0.false, c.held.ensures.events)) in
    after_ok c.release_each.result c.release_each.ensures.done
    (λ tried. tries_each _ _ c.idle.new.self c.forget_unknown.new.connection c.if-not-are_counted.false none c.in-Ok.ensures
    (rw c.ids.ensures at c.in_ok-forget_unknown-in-Ok.ensures.done) (rw c.ids-in-Ok.ensures at tried))

pub returns-in-Ok-clause-lives : goal.returns-in-Ok-clause-lives
returns-in-Ok-clause-lives g c =
    lives_both (lives_both (lives_idle c.args.connection.now c.idle.new.self c.idle.result c.idle.ensures) c.forget_unknown.ensures.lives) c.release_each.ensures.lives

pub returns-in_err-forget_unknown-in-Ok-clause-lives : goal.returns-in_err-forget_unknown-in-Ok-clause-lives
returns-in_err-forget_unknown-in-Ok-clause-lives g c =
    lives_both (lives_idle c.args.connection.now c.idle.new.self c.idle.result c.idle.ensures) c.forget_unknown.ensures.lives

pub returns-in-OutOfMemory-clause-lives : goal.returns-in-OutOfMemory-clause-lives
returns-in-OutOfMemory-clause-lives g c = lives_idle c.args.connection.now c.idle.new.self c.idle.result c.idle.ensures

pub returns-in_default : goal.returns-in_default
returns-in_default g c = record {
  done = none_named c.in-Err.fault c.idle.new.self c.in_default.not-OutOfMemory c.in-Err.ensures refl;
  lives = lives_idle c.args.connection.now c.idle.new.self c.idle.result c.idle.ensures;
}
