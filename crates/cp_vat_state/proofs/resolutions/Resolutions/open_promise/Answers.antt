use Rattle.std.proofs.Common.{rules, None, ◌∙◌, sym}
use Rattle.cp_vat_state.proofs.Keeping.{held-open_promise}
use Rattle.cp_vat_state.proofs.Numbering.{none_fresh, is_fresh, unused, numbered-open, closed_again}
use Rattle.cp_vat_state.proofs.resolutions.Resolutions.open_promise.Goals as goal

pub returns-then-len-eq-LIMIT-clause-fresh : goal.returns-then-len-eq-LIMIT-clause-fresh
returns-then-len-eq-LIMIT-clause-fresh c =
    rw (← c.self.view_is) (none_fresh _ (sym c.self.invariant.1.many ∙ sym c.len.ensures.value ∙ c.if-len-eq-LIMIT.true))

pub invariant_of-self-in-Err : goal.invariant_of-self-in-Err
invariant_of-self-in-Err c =
    rw (c.in-Err.ensures.err, closed_again c.self.inside.numbers c.open.new.self c.close.new.self c.in_ok-id.id tt c.close.result c.in_ok-id.ensures.free c.in_ok-id.ensures.opened c.close.ensures.closed c.close.ensures.else_closed) c.self.invariant

pub invariant_of-self-in-Ok : goal.invariant_of-self-in-Ok
invariant_of-self-in-Ok c =
    let free = unused _ _ c.self.invariant.1 c.in_ok-id.id c.in_ok-id.ensures.free in
    rw (c.in-Ok.ensures.put, c.in_ok-id.ensures.opened)
    (held-open_promise c.self.inside.values c.self.inside.kept c.self.inside.imported c.in_ok-id.id c.self.invariant.0 free, numbered-open _ _ c.in_ok-id.id None tt c.self.invariant.1 c.in_ok-id.ensures.free)

pub returns-clause-fresh : goal.returns-clause-fresh
returns-clause-fresh c =
    rw (← c.self.view_is) (is_fresh _ _ (unused _ _ c.self.invariant.1 c.in_ok-id.id c.in_ok-id.ensures.free) (search rules) (rw c.self.invariant.1.many at (rw c.len.ensures.value at c.len.ensures.few)) (λ full. c.if-len-eq-LIMIT.false (c.len.ensures.value ∙ c.self.invariant.1.many ∙ full)))
