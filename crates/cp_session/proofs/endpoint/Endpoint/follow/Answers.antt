use Rattle.std.proofs.Common.{refl}
use Rattle.cp_dispatch.proofs.Living.{lives_none}
use Rattle.cp_session.proofs.endpoint.Endpoint.follow.Goals as goal

pub returns-then-not-has_ended-clause-follows : goal.returns-then-not-has_ended-clause-follows
returns-then-not-has_ended-clause-follows g c = rw c.if-not-has_ended.true (refl, refl)

pub returns-then-not-has_ended-clause-lives : goal.returns-then-not-has_ended-clause-lives
returns-then-not-has_ended-clause-lives g c = lives_none _

pub returns-clause-follows : goal.returns-clause-follows
returns-clause-follows g c = rw c.if-not-has_ended.false (rw c.stir.ensures at c.round.ensures.polls)

pub returns-clause-lives : goal.returns-clause-lives
returns-clause-lives g c = rw c.stir.ensures at c.round.ensures.lives
