use Rattle.std.proofs.Common.{refl}
use Rattle.cp_dispatch.proofs.Working.{after_ok}
use Rattle.cp_dispatch.proofs.promise_requests.keep_promise_request.Goals as goal

pub returns-in-Make-clause-done : goal.returns-in-Make-clause-done
returns-in-Make-clause-done g c = after_ok c.make_promise.result c.make_promise.ensures.done (λ made. rw c.in-Make.is made)

pub returns-in-Resolve-clause-done : goal.returns-in-Resolve-clause-done
returns-in-Resolve-clause-done g c =
    after_ok c.resolve_for.result c.resolve_for.ensures.done (λ resolved. rw c.in-Resolve.is (rw c.promise_of.ensures at resolved, refl))
