use Rattle.std.proofs.Common.{refl}
use Rattle.std.proofs.lemmas.Bool.{false≢true}
use Rattle.cp_session.specs.Sweep.{too_early, in_time}
use Rattle.cp_dispatch.proofs.Living.{lives_none}
use Rattle.cp_session.proofs.Deciding.{after_ok}
use Rattle.cp_session.proofs.endpoint.Endpoint.tick.Goals as goal

pub returns-then-not-has_come-clause-sweeps : goal.returns-then-not-has_come-clause-sweeps
returns-then-not-has_come-clause-sweeps g c = too_early (λ come. false≢true (c.if-not-has_come.ensures.1 come)) refl refl

pub returns-then-not-has_come-clause-lives : goal.returns-then-not-has_come-clause-lives
returns-then-not-has_come-clause-lives g c = lives_none c.args.self.now.connection

pub returns-clause-sweeps : goal.returns-clause-sweeps
returns-clause-sweeps g c = after_ok c.sweep_all.result c.sweep_all.ensures.sweeps (λ swept. in_time (c.if-not-has_come.ensures.0 refl) swept)
