use Rattle.std.proofs.Common.{Ok, Err, true, [], ◌∷◌, ◌++◌, refl, sym, ap, ◌∙◌, subst, append_assoc, List}
use Rattle.std.proofs.lemmas.Result.{err_from_is_err_and}
use Rattle.cp_tables.specs.Table.{with_change}
use Rattle.cp_refs.specs.Values.{ValueMaps}
use Rattle.cp_refs.specs.declared.cap.Cap.{Cap}
use Rattle.cp_refs.specs.declared.call.Origin.TheVariants as origins
use Rattle.cp_vat_machine.specs.State.{with_questions}
use Rattle.cp_vat_machine.specs.Writing.{WritesDescriptors, mentions_of}
use Rattle.cp_vat_machine.specs.Go.{GoOut, call_of, finish_after}
use Rattle.cp_vat_state.specs.Halts.{Leaves}
use Rattle.cp_vat_state.specs.StateOf.{state_of}
use Rattle.cp_vat_rules.specs.Going.{pending_call_of}
use Rattle.cp_vat_rules.specs.Leading.{with_parts}
use Rattle.cp_vat_rules.proofs.Giving.{acts_err}
use Rattle.cp_vat_rules.proofs.go.send_own.Goals as goal

pub returns-in_err-table-clause-acts : goal.returns-in_err-table-clause-acts
returns-in_err-table-clause-acts c =
    let p = err_from_is_err_and c.from_residual.result c.from_residual.ensures.1 in
    let old = state_of c.args.core.now in
    let P : ValueMaps → Type 0 = λ v. Leaves (WritesDescriptors (with_parts old v c.args.core.now.exports) c.args.call.request.caps) (Err c.in_err-table.field-0.0) (with_parts old v c.write_descriptors.new.exports) in
    let Q : List Cap → Type 0 = λ caps. Leaves (WritesDescriptors (with_parts old c.values.result.now c.args.core.now.exports) caps) (Err c.in_err-table.field-0.0) (with_parts old c.values.result.now c.write_descriptors.new.exports) in
    rw (p.1, p.2)
    (acts_err (WritesDescriptors old c.args.call.request.caps) (GoOut old (pending_call_of c.args.call) c.args.target (origins.Own c.args.question)) _ _ _ _ _ (λ f r. (c.in-Some.entry.now, sym c.in-Some.ensures, (Err f, r, refl)))
    (subst P c.values.ensures (subst Q c.caps.ensures (c.in_err-table.ensures.said old))))

pub returns-clause-acts : goal.returns-clause-acts
returns-clause-acts c =
    let old = state_of c.args.core.now in
    let q = c.args.question in
    let said = with_parts old c.args.core.now.values c.write_descriptors.new.exports in
    let P : ValueMaps → Type 0 = λ v. WritesDescriptors (with_parts old v c.args.core.now.exports) c.args.call.request.caps (Ok (c.in_ok-table.table, with_parts old v c.write_descriptors.new.exports)) in
    let Q : List Cap → Type 0 = λ caps. WritesDescriptors (with_parts old c.values.result.now c.args.core.now.exports) caps (Ok (c.in_ok-table.table, with_parts old c.values.result.now c.write_descriptors.new.exports)) in
    let sent_as = call_of q c.args.target c.args.call.request c.in_ok-table.table in
    let noted = c.note_sent.ensures ∙ ap (λ m. with_change c.args.core.now.questions q (λ entry. record entry { kept = record entry.kept { is_sent = true; mentions = m } })) (c.in_ok-ids.ensures ∙ ap mentions_of c.descriptors.ensures) in
    let pushed = c.in_ok-add.ensures ∙ ap (λ e. c.args.effects.now.items ++ e ∷ []) c.call_effect.ensures in (
      sent_as ∷ finish_after q c.in-Some.entry.now.stage,
      c.in_ok-finish_after.ensures ∙ ap (λ l. l ++ finish_after q c.in-Some.entry.now.stage) pushed ∙ append_assoc c.args.effects.now.items (sent_as ∷ []) (finish_after q c.in-Some.entry.now.stage),
      (
        c.in-Some.entry.now,
        sym c.in-Some.ensures,
        (Ok (c.in_ok-table.table, said), subst P c.values.ensures (subst Q c.caps.ensures (c.in_ok-table.ensures.said old)), ap (λ qs. Ok (sent_as ∷ finish_after q c.in-Some.entry.now.stage, with_questions said qs)) noted),
      ),
    )
