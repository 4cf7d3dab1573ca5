use Rattle.cp_objects.proofs.Firsts.{popped_first, popped_rest}
use Rattle.std.proofs.Common.{refl}
use Rattle.cp_objects.proofs.forwarded_calls.ForwardedCalls.next.Goals as goal

pub returns-clause-first : goal.returns-clause-first
returns-clause-first c =
    let e = c.pop_first.ensures in
    rw (← c.self.view_is) (popped_first c.self.inside.waiting c.pop_first.new.self c.pop_first.result e.variant e.removal e.all_above e.unchanged e.ordered)

pub returns-clause-rest : goal.returns-clause-rest
returns-clause-rest c =
    let e = c.pop_first.ensures in
    let first = popped_first c.self.inside.waiting c.pop_first.new.self c.pop_first.result e.variant e.removal e.all_above e.unchanged e.ordered in
    rw (← c.self.view_is, ← first) (popped_rest _ c.self.inside.waiting c.pop_first.new.self c.pop_first.result refl e.updates e.unchanged)
