use Rattle.std.proofs.Common.{refl, arith}
use Rattle.std.proofs.lemmas.Bool.{false≢true}
use Rattle.cp_session.specs.Sweep.{none_may_go, waits, sweeps}
use Rattle.cp_dispatch.proofs.Living.{lives_none}
use Rattle.cp_session.proofs.Deciding.{after_ok}
use Rattle.cp_session.proofs.endpoint.Endpoint.sweep_objects.Goals as goal

pub returns-then-guests-eq0-clause-sweeps : goal.returns-then-guests-eq0-clause-sweeps
returns-then-guests-eq0-clause-sweeps g c = none_may_go (omega (arith, c.guests.ensures, c.if-guests-eq0.true)) refl refl

pub returns-then-guests-eq0-clause-lives : goal.returns-then-guests-eq0-clause-lives
returns-then-guests-eq0-clause-lives g c = lives_none c.args.self.now.connection

pub returns-then-is_due-clause-sweeps : goal.returns-then-is_due-clause-sweeps
returns-then-is_due-clause-sweeps g c =
    after_ok c.sweep_all.result c.sweep_all.ensures.sweeps
    (λ swept. sweeps (omega (arith, c.guests.ensures, c.if-guests-eq0.false)) (rw c.stats.ensures at (c.if-is_due.ensures.0 refl)) swept)

pub returns-clause-lives : goal.returns-clause-lives
returns-clause-lives g c = lives_none c.args.self.now.connection

pub returns-clause-sweeps : goal.returns-clause-sweeps
returns-clause-sweeps g c =
    waits (omega (arith, c.guests.ensures, c.if-guests-eq0.false)) (λ due. false≢true (c.if-is_due.ensures.1 (rw (← c.stats.ensures) at due))) (rw c.later-self.ensures refl) refl
