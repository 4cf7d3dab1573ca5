use Rattle.std.proofs.Common.{rules, ◌∙◌, sym}
use Rattle.cp_vat_machine.specs.Writing.{opened, has_no_capacity}
use Rattle.cp_vat_state.specs.Index.{cap_of}
use Rattle.cp_vat_state.proofs.Numbering.{is_fresh, none_fresh}
use Rattle.cp_vat_state.proofs.Indexing.{raise_out, raise_more, raised_to, has_none, indexed-counted, indexed-opened, lowered_again, if_some, none_if, same_count, counted_back, opened_back}
use Rattle.cp_vat_state.proofs.exports.Exported.raise.Goals as goal

pub returns-then-export-clause-raised : goal.returns-then-export-clause-raised
returns-then-export-clause-raised c s =
    let has = c.self.invariant.exported (cap_of c.args.hosted) c.in-Some.id (sym c.number.ensures ∙ c.in-Some.is) in
    rw (← c.self.view_is) (raise_out s c.self.inside.exports c.in-Some.id (cap_of c.args.hosted) c.in-Some-get.export.now c.in-Some-get.ensures.value has c.if-export.true)

pub invariant_of-self : goal.invariant_of-self
invariant_of-self c =
    let has = c.self.invariant.exported (cap_of c.args.hosted) c.in-Some.id (sym c.number.ensures ∙ c.in-Some.is) in
    let same = same_count c.self.inside.exports c.in-Some.id (cap_of c.args.hosted) c.in-Some-get.export.now c.in-Some-get.ensures.value has in
    rw (raised_to c.self.inside.exports c.raise.new.self c.in-Some.id has.0 (cap_of c.args.hosted) c.raise.result has.1 (λ most. c.if-export.false (same ∙ most)) c.raise.ensures.raised c.raise.ensures.else_raised)
    (indexed-counted c.self.inside.exports c.self.inside.index c.self.invariant c.in-Some.id has.0 _ (cap_of c.args.hosted) has.1)

pub returns-in-Some-clause-back : goal.returns-in-Some-clause-back
returns-in-Some-clause-back c =
    let has = c.self.invariant.exported (cap_of c.args.hosted) c.in-Some.id (sym c.number.ensures ∙ c.in-Some.is) in
    let same = same_count c.self.inside.exports c.in-Some.id (cap_of c.args.hosted) c.in-Some-get.export.now c.in-Some-get.ensures.value has in
    let some = if_some _ _ _ (sym c.in-Some-get.ensures.value) (c.in-Some-get.ensures.counts c.in-Some.id) in
    rw (← c.self.view_is, raised_to c.self.inside.exports c.raise.new.self c.in-Some.id has.0 (cap_of c.args.hosted) c.raise.result has.1 (λ most. c.if-export.false (same ∙ most)) c.raise.ensures.raised c.raise.ensures.else_raised)
    (counted_back c.self.inside.exports c.in-Some.id has.0 (cap_of c.args.hosted) has.1 (rw same at some.0))

pub returns-in-Some-clause-raised : goal.returns-in-Some-clause-raised
returns-in-Some-clause-raised c s =
    let has = c.self.invariant.exported (cap_of c.args.hosted) c.in-Some.id (sym c.number.ensures ∙ c.in-Some.is) in
    let small = if_some _ _ _ (sym c.in-Some-get.ensures.value) (c.in-Some-get.ensures.counts c.in-Some.id) in
    rw (← c.self.view_is) (raise_more s c.self.inside.exports c.raise.new.self c.in-Some.id (cap_of c.args.hosted) c.raise.result c.in-Some-get.export.now c.in-Some-get.ensures.value has c.if-export.false small.1 c.raise.ensures.raised c.raise.ensures.else_raised)

pub returns-then-len-eq-LIMIT-clause-raised : goal.returns-then-len-eq-LIMIT-clause-raised
returns-then-len-eq-LIMIT-clause-raised c s =
    let none = sym c.number.ensures ∙ none_if _ c.in_default.not-Some in
    rw (← c.self.view_is) (has_no_capacity (has_none c.self.inside.exports c.self.inside.index c.self.invariant s (cap_of c.args.hosted) none) (none_fresh c.self.inside.exports (sym c.len.ensures.value ∙ c.if-len-eq-LIMIT.true)))

pub invariant_of-self-in-Err : goal.invariant_of-self-in-Err
invariant_of-self-in-Err c =
    let back = lowered_again c.self.inside.exports c.raise-2.new.self c.lower.new.self c.in_ok-id.id (cap_of c.args.hosted) c.lower.result c.in_ok-id.ensures.free (rw c.cap.ensures at c.in_ok-id.ensures.opened) c.lower.ensures.gone in
    rw (c.in-Err.ensures.err, back) c.self.invariant

pub invariant_of-self-in_default-put : goal.invariant_of-self-in_default-put
invariant_of-self-in_default-put c =
    let none = sym c.number.ensures ∙ none_if _ c.in_default.not-Some in
    rw (c.in_default-put.ensures.put, c.in_ok-id.ensures.opened, c.cap.ensures) (indexed-opened c.self.inside.exports c.self.inside.index c.self.invariant c.in_ok-id.id c.args.hosted c.in_ok-id.ensures.free none)

pub returns-clause-back : goal.returns-clause-back
returns-clause-back c = rw (← c.self.view_is, c.in_ok-id.ensures.opened, c.cap.ensures) (opened_back c.self.inside.exports c.in_ok-id.id (cap_of c.args.hosted) c.in_ok-id.ensures.free)

pub returns-clause-raised : goal.returns-clause-raised
returns-clause-raised c s =
    let none = sym c.number.ensures ∙ none_if _ c.in_default.not-Some in
    rw (← c.self.view_is, c.in_ok-id.ensures.opened, c.cap.ensures)
    (opened c.in_ok-id.id (has_none c.self.inside.exports c.self.inside.index c.self.invariant s (cap_of c.args.hosted) none) (is_fresh c.self.inside.exports c.in_ok-id.id c.in_ok-id.ensures.free (search rules) (rw c.len.ensures.value at c.len.ensures.few) (λ full. c.if-len-eq-LIMIT.false (c.len.ensures.value ∙ full))))
