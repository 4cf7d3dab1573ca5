use Rattle.std.proofs.Common.{◌≡◌, Ok, Err, refl, sym, ap, ◌∙◌, subst}
use Rattle.std.proofs.lemmas.Result.{err_from_is_err_and}
use Rattle.cp_vat_machine.specs.Calling.{GoFrom, called, reference_of}
use Rattle.cp_vat_machine.specs.declared.event.Value.TheVariants as values
use Rattle.cp_vat_state.specs.StateOf.{state_of}
use Rattle.cp_vat.specs.Ways.{WayEnds, seen, taken_back}
use Rattle.cp_vat.proofs.Ways.{opens_full, call_taken_back, fresh_free}
use Rattle.cp_vat.proofs.Ready.{call_ticket, call_may, call_ends}
use Rattle.cp_vat.proofs.calling.open_call.Goals as goal

pub returns-in_err-question : goal.returns-in_err-question
returns-in_err-question c =
    let p = err_from_is_err_and c.from_residual-in_err-question.result c.from_residual-in_err-question.ensures.1 in
    rw (p.1, p.2) (opens_full c.args.core.now c.enter.new.core c.args.cap.now c.args.request (λ q. values.Question q) c.in_err-question.field-0.0 _ _ c.in_err-question.ensures.full c.in_err-question.ensures.unchanged)

pub returns-in-Ok : goal.returns-in-Ok
returns-in-Ok c =
    let old = state_of c.args.core.now in
    let q = c.in_ok-question.question in
    let is = c.in_ok-question.ensures.called ∙ ap (λ k. called old q k) c.kind_of.ensures in
    let went = c.in-Ok.ensures.acts old q c.args.request is c.in_ok-question.ensures.call in
    let new = state_of c.go_from.new.core in
    let named : seen c.in_ok-reference.reference ≡ reference_of old.values c.args.cap.now = c.in_ok-reference.ensures ∙ ap (λ v. reference_of v c.args.cap.now) c.values.ensures in
    (went.0, went.1, (Ok q, c.in_ok-question.ensures.fresh, (Ok (went.0, new), subst (λ r. GoFrom old q c.args.request c.args.cap.now r (Ok (went.0, new))) named went.2, refl)))

pub returns-in-Err-Fault : goal.returns-in-Err-Fault
returns-in-Err-Fault c =
    let old = state_of c.args.core.now in
    let q = c.in_ok-question.question in
    let fault = c.in-Err-Fault.fault in
    let is = c.in_ok-question.ensures.called ∙ ap (λ k. called old q k) c.kind_of.ensures in
    let went = rw c.in-Err-Fault.field-0-is at (c.in-Err-Fault.ensures.acts old q c.args.request is c.in_ok-question.ensures.call) in
    let same = rw c.in-Err-Fault.field-0-is at c.in-Err-Fault.ensures.unchanged in
    let named : seen c.in_ok-reference.reference ≡ reference_of old.values c.args.cap.now = c.in_ok-reference.ensures ∙ ap (λ v. reference_of v c.args.cap.now) c.values.ensures in (
      (Ok q, c.in_ok-question.ensures.fresh, (Err fault, subst (λ r. GoFrom old q c.args.request c.args.cap.now r (Err fault)) named went, refl)),
      c.take_back.ensures ∙ ap (λ k. taken_back (state_of k) q) same ∙ ap (λ s. taken_back s q) c.in_ok-question.ensures.called
          ∙ call_taken_back old q c.kind_of.result c.in_ok-question.ensures.unknown (fresh_free c.args.core.now.questions q c.in_ok-question.ensures.fresh),
    )

pub enter-requires-clause-ticket : goal.enter-requires-clause-ticket
enter-requires-clause-ticket c = call_ticket (state_of c.args.core.now) c.requires.local c.args.cap.now c.args.request c.requires.passed

pub go_from-requires-clause-may : goal.go_from-requires-clause-may
go_from-requires-clause-may c =
    let old = state_of c.args.core.now in
    let q = c.in_ok-question.question in
    rw (c.in_ok-question.ensures.called, c.in_ok-question.ensures.call)
    (call_may old c.requires.local c.args.cap.now c.args.request c.requires.passed q (fresh_free c.args.core.now.questions q c.in_ok-question.ensures.fresh) c.kind_of.result)

pub go_from-requires-clause-ends : goal.go_from-requires-clause-ends
go_from-requires-clause-ends c =
    let old = state_of c.args.core.now in
    let q = c.in_ok-question.question in
    let named : seen c.in_ok-reference.reference ≡ reference_of old.values c.args.cap.now = c.in_ok-reference.ensures ∙ ap (λ v. reference_of v c.args.cap.now) c.values.ensures in
    subst (λ s. WayEnds s.values c.args.cap.now c.in_ok-reference.reference) (sym c.in_ok-question.ensures.called)
    (call_ends old c.requires.local c.args.cap.now c.args.request c.requires.passed q (fresh_free c.args.core.now.questions q c.in_ok-question.ensures.fresh) c.kind_of.result c.in_ok-reference.reference named)
