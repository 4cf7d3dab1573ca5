use Rattle.std.proofs.Common.{refl}
use Rattle.cp_dispatch.proofs.Living.{lives_none}
use Rattle.cp_dispatch.proofs.Working.{after_ok}
use Rattle.cp_dispatch.proofs.promise_requests.resolve_for.Goals as goal

pub returns-in-Some-clause-done : goal.returns-in-Some-clause-done
returns-in-Some-clause-done c = after_ok c.resolve.result c.resolve.ensures.done (λ resolved. rw c.in-Some.is resolved)

pub returns-in-None-clause-done : goal.returns-in-None-clause-done
returns-in-None-clause-done c = rw c.in-None.is refl

pub returns-in-None-clause-lives : goal.returns-in-None-clause-lives
returns-in-None-clause-lives c = lives_none c.args.connection.now
