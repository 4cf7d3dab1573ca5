use Rattle.std.proofs.Common.{refl}
use Rattle.std.proofs.lemmas.Bool.{false≢true}
use Rattle.net_host.proofs.time.Time.is_due.Goals as goal

pub returns-then-is_swept-clause-due : goal.returns-then-is_swept-clause-due
returns-then-is_swept-clause-due c = (λ t. absurd (false≢true t), λ due. absurd (due.1 (c.if-is_swept.ensures.0 refl)))

pub returns-then-has_come-clause-due : goal.returns-then-has_come-clause-due
returns-then-has_come-clause-due c = (λ t. (c.if-has_come.ensures.0 refl, λ same. false≢true (c.if-is_swept.ensures.1 same)), λ due. refl)

pub returns-clause-due : goal.returns-clause-due
returns-clause-due c = (λ t. absurd (false≢true t), λ due. absurd (false≢true (c.if-has_come.ensures.1 due.0)))
