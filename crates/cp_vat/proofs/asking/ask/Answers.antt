use Rattle.std.proofs.Common.{rules, sym, ◌∙◌}
use Rattle.cp_vat_laws.proofs.within.Between.{local_is_within}
use Rattle.cp_vat_laws.proofs.within.Follows.{none_valued}
use Rattle.cp_vat_state.proofs.Numbering.{is_fresh, none_fresh}
use Rattle.cp_vat.proofs.asking.ask.Goals as goal

pub returns-then-len-eq-LIMIT-clause-fresh : goal.returns-then-len-eq-LIMIT-clause-fresh
returns-then-len-eq-LIMIT-clause-fresh c = none_fresh _ (sym c.len.ensures.value ∙ c.if-len-eq-LIMIT.true)

pub returns-clause-fresh : goal.returns-clause-fresh
returns-clause-fresh c =
    is_fresh _ c.in_ok-id.id c.in_ok-id.ensures.free (search rules) (rw c.len.ensures.value at c.len.ensures.few)
    (λ full. c.if-len-eq-LIMIT.false (c.len.ensures.value ∙ full))

pub returns-clause-unknown : goal.returns-clause-unknown
returns-clause-unknown c = none_valued (local_is_within _ c.requires) c.in_ok-id.id c.in_ok-id.ensures.free
