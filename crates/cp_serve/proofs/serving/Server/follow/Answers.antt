use Rattle.std.proofs.Common.{refl}
use Rattle.cp_dispatch.proofs.Living.{lives_none}
use Rattle.cp_serve.proofs.serving.Server.follow.Goals as goal

pub returns-then-not-has_ended-clause-done : goal.returns-then-not-has_ended-clause-done
returns-then-not-has_ended-clause-done g c = rw c.if-not-has_ended.true (refl, refl)

pub returns-then-not-has_ended-clause-lives : goal.returns-then-not-has_ended-clause-lives
returns-then-not-has_ended-clause-lives g c = lives_none c.args.self.now.connection

pub returns-clause-done : goal.returns-clause-done
returns-clause-done g c = rw c.if-not-has_ended.false ((c.in_ok-round.field-0, c.in_ok-round.ensures.done), c.in_ok-round.ensures.ready)
