use Rattle.std.proofs.Common.{ap, ◌∙◌, append_assoc, ◌++◌}
use Rattle.std.proofs.lemmas.Result.{err_from_is_err_and}
use Rattle.cp_vat_state.specs.StateOf.{state_of}
use Rattle.cp_vat_state.proofs.Indexing.{none_if}
use Rattle.cp_vat_rules.proofs.Going.{leave_ends, left_may, left_ends, left_within, left_fewer, leave_goes, leave_halts}
use Rattle.cp_vat_rules.proofs.leave.leave.Goals as goal

pub returns-in_default : goal.returns-in_default
returns-in_default c =
    let i = c.leaving.invariant.left in
    let none = none_if _ c.in_default.not-Some in
    let over = rw none at c.in_ok-next.ensures.left in
    let same = rw none at c.in_ok-next.ensures.rest in
    (i.0, i.1, leave_ends _ (state_of c.leaving.core) i.0 i.2 c.forget.new.self over (rw same at c.forget.ensures))

pub go_on-requires-clause-may : goal.go_on-requires-clause-may
go_on-requires-clause-may c =
    let i = c.leaving.invariant.left in
    let next = rw c.in-Some.is at c.in_ok-next.ensures.left in
    let is = rw c.in-Some.is at c.in_ok-next.ensures.rest in
    left_may _ (state_of c.leaving.core) i.0 i.2 c.next.new.self c.in-Some.next.call c.in-Some.next.cap next is c.leaving.invariant.within

pub go_on-requires-clause-ends : goal.go_on-requires-clause-ends
go_on-requires-clause-ends c =
    let i = c.leaving.invariant.left in
    let next = rw c.in-Some.is at c.in_ok-next.ensures.left in
    let is = rw c.in-Some.is at c.in_ok-next.ensures.rest in
    left_ends _ (state_of c.leaving.core) i.0 i.2 c.next.new.self c.in-Some.next.call c.in-Some.next.cap next is c.leaving.invariant.within

pub returns-in_err-go_on : goal.returns-in_err-go_on
returns-in_err-go_on c =
    let i = c.leaving.invariant.left in
    let next = rw c.in-Some.is at c.in_ok-next.ensures.left in
    let is = rw c.in-Some.is at c.in_ok-next.ensures.rest in
    let p = err_from_is_err_and c.from_residual-in_err-go_on.result c.from_residual-in_err-go_on.ensures.1 in
    rw (p.1, p.2) (leave_halts _ (state_of c.leaving.core) i.0 i.2 c.next.new.self c.in-Some.next.call c.in-Some.next.cap next is _ _ _ _ _ _ _ i.1 c.in_err-go_on.ensures)

pub leaving-preserved : goal.leaving-preserved
leaving-preserved c =
    let i = c.leaving.invariant.left in
    let next = rw c.in-Some.is at c.in_ok-next.ensures.left in
    let is = rw c.in-Some.is at c.in_ok-next.ensures.rest in
    record {
      left = (
        i.0 ++ c.go_on.new.effects.items,
        c.in_ok-append.ensures.items ∙ ap (λ l. l ++ c.go_on.new.effects.items) i.1 ∙ append_assoc c.args.effects.now.items i.0 c.go_on.new.effects.items,
        leave_goes _ (state_of c.leaving.core) i.0 i.2 c.next.new.self c.in-Some.next.call c.in-Some.next.cap next is _ _ (state_of c.go_on.new.core) c.new-first.ensures.items c.in_ok-go_on.ensures,
      );
      within = left_within _ (state_of c.leaving.core) i.0 i.2 c.next.new.self c.in-Some.next.call c.in-Some.next.cap next is c.leaving.invariant.within _ _ (state_of c.go_on.new.core) c.new-first.ensures.items c.in_ok-go_on.ensures;
    }

pub leaving-smaller : goal.leaving-smaller
leaving-smaller c =
    let i = c.leaving.invariant.left in
    let next = rw c.in-Some.is at c.in_ok-next.ensures.left in
    let is = rw c.in-Some.is at c.in_ok-next.ensures.rest in
    left_fewer _ (state_of c.leaving.core) i.0 i.2 c.next.new.self c.in-Some.next.call c.in-Some.next.cap next is c.leaving.invariant.within _ _ (state_of c.go_on.new.core) c.new-first.ensures.items c.in_ok-go_on.ensures
