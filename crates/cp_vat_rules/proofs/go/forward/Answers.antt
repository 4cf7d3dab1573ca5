use Rattle.std.proofs.Common.{rules, Some, true, false, Ok, Err, [], ◌∷◌, ◌++◌, refl, sym, ap, ◌∙◌, subst, List}
use Rattle.cp_messages.specs.declared.descriptor.Descriptor.{Descriptor}
use Rattle.cp_refs.specs.Values.{ValueMaps}
use Rattle.cp_refs.specs.declared.cap.Cap.{Cap}
use Rattle.cp_refs.specs.declared.call.Origin.TheVariants as origins
use Rattle.cp_vat_machine.specs.Writing.{WritesDescriptors, mentions_of}
use Rattle.std.specs.FinMap.{insert}
use Rattle.cp_tables.specs.Exchange.{new_exchange}
use Rattle.cp_vat_machine.specs.State.{with_questions}
use Rattle.cp_vat_machine.specs.Go.{GoOut, call_of}
use Rattle.cp_vat_machine.specs.declared.fault.PeerFault.TheVariants as faults
use Rattle.cp_vat_state.specs.StateOf.{state_of}
use Rattle.cp_vat_rules.specs.Going.{pending_call_of}
use Rattle.cp_vat_rules.specs.Leading.{with_parts}
use Rattle.cp_vat_state.specs.Halts.{Leaves}
use Rattle.cp_vat_state.proofs.Numbering.{is_fresh, none_fresh}
use Rattle.cp_vat_rules.proofs.Giving.{acts_err, question_noted}
use Rattle.cp_vat_rules.proofs.Closing.{forward_undone}
use Rattle.cp_vat_rules.proofs.go.forward.Goals as goal

pub returns-then-len-eq-LIMIT-clause-acts : goal.returns-then-len-eq-LIMIT-clause-acts
returns-then-len-eq-LIMIT-clause-acts c = (Err faults.TableFull, none_fresh _ (sym c.len.ensures.value ∙ c.if-len-eq-LIMIT.true), refl)

pub returns-in-Err-clause-acts : goal.returns-in-Err-clause-acts
returns-in-Err-clause-acts c =
    let old = state_of c.args.core.now in
    let fresh = is_fresh c.args.core.now.questions c.in_ok-question.question c.in_ok-question.ensures.free (search rules) (rw c.len.ensures.value at c.len.ensures.few) (λ full. c.if-len-eq-LIMIT.false (c.len.ensures.value ∙ full)) in
    let P : ValueMaps → Type 0 = λ v. Leaves (WritesDescriptors (with_parts old v c.args.core.now.exports) c.args.call.request.caps) (Err c.in-Err.step_fault) (with_parts old v c.write_descriptors-said.new.exports) in
    let Q : List Cap → Type 0 = λ caps. Leaves (WritesDescriptors (with_parts old c.values.result.now c.args.core.now.exports) caps) (Err c.in-Err.step_fault) (with_parts old c.values.result.now c.write_descriptors-said.new.exports) in
    acts_err (WritesDescriptors old c.args.call.request.caps) (GoOut old (pending_call_of c.args.call) c.args.target (origins.Answer c.args.answer)) _ _ _ _ _ (λ f r. (Ok c.in_ok-question.question, fresh, (Err f, r, refl)))
    (subst P c.values.ensures (subst Q c.caps.ensures (c.in-Err.ensures.said old)))

pub returns-in-Err-clause-unchanged : goal.returns-in-Err-clause-unchanged
returns-in-Err-clause-unchanged c =
    forward_undone (List Descriptor) (Unit {0}) c.in-Err.step_fault c.args.core.now c.in_ok-question.question _ c.open.new.self c.close.new.self c.write_descriptors-said.new.exports c.in_ok-question.ensures.free c.in_ok-question.ensures.opened c.close.ensures c.in-Err.ensures.unchanged

pub returns-clause-acts : goal.returns-clause-acts
returns-clause-acts c =
    let old = state_of c.args.core.now in
    let fresh = is_fresh c.args.core.now.questions c.in_ok-question.question c.in_ok-question.ensures.free (search rules) (rw c.len.ensures.value at c.len.ensures.few) (λ full. c.if-len-eq-LIMIT.false (c.len.ensures.value ∙ full)) in
    let said = with_parts old c.args.core.now.values c.write_descriptors-said.new.exports in
    let P : ValueMaps → Type 0 = λ v. WritesDescriptors (with_parts old v c.args.core.now.exports) c.args.call.request.caps (Ok (c.in-Ok.table, with_parts old v c.write_descriptors-said.new.exports)) in
    let Q : List Cap → Type 0 = λ caps. WritesDescriptors (with_parts old c.values.result.now c.args.core.now.exports) caps (Ok (c.in-Ok.table, with_parts old c.values.result.now c.write_descriptors-said.new.exports)) in
    let noted = question_noted c.args.core.now.questions c.open.new.self c.note_mentions.new.questions c.in_ok-question.question _ c.in_ok-ids.ids c.in_ok-question.ensures.opened c.note_mentions.ensures in
    let named = ap (λ m. insert c.args.core.now.questions c.in_ok-question.question (new_exchange (record { forwards = Some c.args.answer; ticket = Some c.args.call.ticket; is_sent = true; is_delivered = false; mentions = m }))) (c.in_ok-ids.ensures ∙ ap mentions_of c.descriptors.ensures) in (
      _,
      c.in_ok-add.ensures ∙ ap (λ e. c.args.effects.now.items ++ e ∷ []) c.call_effect.ensures,
      (Ok c.in_ok-question.question, fresh, (Ok (c.in-Ok.table, said), subst P c.values.ensures (subst Q c.caps.ensures (c.in-Ok.ensures.said old)), ap (λ qs. Ok (call_of c.in_ok-question.question c.args.target c.args.call.request c.in-Ok.table ∷ [], with_questions said qs)) (noted ∙ named))),
    )
