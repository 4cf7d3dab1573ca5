use Rattle.std.proofs.Common.{◌≡◌, Ok, false, true, sym, ap, ◌∙◌, is_some}
use Rattle.std.proofs.lemmas.Result.{err_from_is_err_and}
use Rattle.cp_vat_machine.specs.Calling.{mark_of}
use Rattle.cp_vat_state.specs.Marking.{with_marks}
use Rattle.cp_vat_state.specs.StateOf.{state_of}
use Rattle.cp_vat_rules.specs.Going.{pending_call_of}
use Rattle.cp_vat.proofs.Ways.{may_marked, mark_stops, marked_stops, unmarked_as_it_was, marked_as_it_was}
use Rattle.cp_vat.proofs.going.go_marked.Goals as goal

pub returns-in_err-put_mark-clause-acts : goal.returns-in_err-put_mark-clause-acts
returns-in_err-put_mark-clause-acts c =
    let old = state_of c.args.core.now in
    let p = err_from_is_err_and c.from_residual.result c.from_residual.ensures.1 in
    rw (p.1, p.2) (mark_stops old (pending_call_of c.args.call) c.args.cap.now _ _ _ _ _ (c.in_err-put_mark.ensures.marked old))

pub returns-in-Ok-clause-acts : goal.returns-in-Ok-clause-acts
returns-in-Ok-clause-acts c =
    let old = state_of c.args.core.now in
    let went = c.in-Ok.ensures.acts in
    (went.0, went.1, (Ok (with_marks old c.put_mark.new.self), sym (c.in_ok-put_mark.ensures.marked old), went.2))

pub returns-then-not-is_marked-clause-acts : goal.returns-then-not-is_marked-clause-acts
returns-then-not-is_marked-clause-acts c =
    let old = state_of c.args.core.now in
    marked_stops old (pending_call_of c.args.call) c.args.cap.now (with_marks old c.put_mark.new.self) (c.in_ok-put_mark.ensures.marked old) c.in-Err.step_fault _ _ _ _ _ _ c.in-Err.ensures.acts

pub returns-else-not-is_marked-clause-acts : goal.returns-else-not-is_marked-clause-acts
returns-else-not-is_marked-clause-acts c =
    let old = state_of c.args.core.now in
    marked_stops old (pending_call_of c.args.call) c.args.cap.now (with_marks old c.put_mark.new.self) (c.in_ok-put_mark.ensures.marked old) c.in-Err.step_fault _ _ _ _ _ _ c.in-Err.ensures.acts

pub returns-then-not-is_marked-clause-unchanged : goal.returns-then-not-is_marked-clause-unchanged
returns-then-not-is_marked-clause-unchanged c =
    let old = state_of c.args.core.now in
    let none : is_some (mark_of old c.args.cap.now) ≡ false = sym (ap is_some (c.mark.ensures old)) ∙ sym c.is_some-is_marked.ensures ∙ c.if-not-is_marked.true in
    unmarked_as_it_was c.args.core.now c.go_to.new.core c.put_mark.new.self c.args.cap.now (c.in_ok-put_mark.ensures.marked old) c.in-Err.step_fault c.remove_mark.new.self none c.remove_mark.ensures c.in-Err.ensures.unchanged

pub returns-else-not-is_marked-clause-unchanged : goal.returns-else-not-is_marked-clause-unchanged
returns-else-not-is_marked-clause-unchanged c =
    let old = state_of c.args.core.now in
    let some : is_some (mark_of old c.args.cap.now) ≡ true = sym (ap is_some (c.mark.ensures old)) ∙ sym c.is_some-is_marked.ensures ∙ c.if-not-is_marked.false in
    marked_as_it_was c.args.core.now c.go_to.new.core c.put_mark.new.self c.args.cap.now (c.in_ok-put_mark.ensures.marked old) c.in-Err.step_fault some c.in-Err.ensures.unchanged

pub go_to-requires-clause-may : goal.go_to-requires-clause-may
go_to-requires-clause-may c = may_marked (state_of c.args.core.now) c.put_mark.new.self (pending_call_of c.args.call) c.requires.may
