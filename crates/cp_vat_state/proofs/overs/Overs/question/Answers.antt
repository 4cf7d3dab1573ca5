use Rattle.std.proofs.Common.{sym}
use Rattle.cp_tables.proofs.TableLemmas.{get-insert_same, get-insert_other}
use Rattle.cp_vat_state.proofs.overs.Overs.question.Goals as goal

pub returns-then-number-id : goal.returns-then-number-id
returns-then-number-id c =
    let last = rw c.in-Some-Question.is at c.in-Some-Question.field-0-is in
    rw (c.in-Some-Question.is, last, ← c.if-number-id.true) (sym (get-insert_same _ _ _))

pub returns-else-number-id : goal.returns-else-number-id
returns-else-number-id c =
    let last = rw c.in-Some-Question.is at c.in-Some-Question.field-0-is in
    rw (c.get.ensures, c.in-Some-Question.is, last) (sym (get-insert_other _ _ _ _ (λ e. c.if-number-id.false (sym e))))
