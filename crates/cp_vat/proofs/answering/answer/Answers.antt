use Rattle.std.proofs.Common.{Ok, refl}
use Rattle.std.proofs.lemmas.Result.{err_from_is_err_and}
use Rattle.cp_vat_machine.specs.Then.{OrFull}
use Rattle.cp_vat_machine.specs.Doing.{DoAnswer, Quietly, answer_refusals, quietly}
use Rattle.cp_vat_machine.specs.Give.{Give}
use Rattle.cp_vat_machine.specs.declared.event.Value.TheVariants as values
use Rattle.cp_vat_state.specs.StateOf.{state_of}
use Rattle.cp_vat.proofs.Judged.{unless_passed, unless_failed}
use Rattle.cp_vat.proofs.Faulting.{acts_refused}
use Rattle.cp_vat.proofs.Refusing.{calls_refused}
use Rattle.cp_vat_laws.proofs.within.Between.{local_is_within}
use Rattle.cp_vat.proofs.Ready.{answer_ungiven, answer_ends}
use Rattle.cp_vat.proofs.answering.answer.Goals as goal

pub returns-in_err-check_answer : goal.returns-in_err-check_answer
returns-in_err-check_answer c =
    let p = err_from_is_err_and c.from_residual.result c.from_residual.ensures.1 in
    let old = state_of c.args.core.now in
    rw (p.1, p.2) (calls_refused {A = Unit {0}} (DoAnswer old c.args.origin c.args.outcome) (λ x. values.Nothing) old c.in_err-check_answer.field-0.0 c.args.effects.now.items c.args.effects.now.items (unless_failed (answer_refusals old c.args.origin c.args.outcome) _ c.in_err-check_answer.field-0.0 c.in_err-check_answer.ensures))

pub returns-in_err-give : goal.returns-in_err-give
returns-in_err-give c =
    let p = err_from_is_err_and c.from_residual-in_err-give.result c.from_residual-in_err-give.ensures.1 in
    let old = state_of c.args.core.now in
    rw (p.1, p.2) (acts_refused (Give old c.args.origin c.args.outcome) c.args.core.now c.give.new.core c.in_err-give.field-0.0 c.args.effects.now.items c.give.new.effects.items (answer_refusals old c.args.origin c.args.outcome) c.in_ok-check_answer.ensures c.in_err-give.ensures.acts c.in_err-give.ensures.unchanged)

pub returns : goal.returns
returns c =
    let old = state_of c.args.core.now in
    let done = c.in_ok-give.ensures.acts in
    let new = state_of c.give.new.core in
    (done.0, done.1, unless_passed (answer_refusals old c.args.origin c.args.outcome) (OrFull (Quietly (Give old c.args.origin c.args.outcome))) _ c.in_ok-check_answer.ensures (Ok (quietly (done.0, new)), (Ok (done.0, new), done.2, refl), refl))

pub give-requires-clause-ungiven : goal.give-requires-clause-ungiven
give-requires-clause-ungiven c =
    let old = state_of c.args.core.now in
    answer_ungiven old (local_is_within old c.requires) c.args.origin c.args.outcome c.in_ok-check_answer.ensures

pub give-requires-clause-ends : goal.give-requires-clause-ends
give-requires-clause-ends c =
    let old = state_of c.args.core.now in
    answer_ends old (local_is_within old c.requires) c.args.origin c.args.outcome c.in_ok-check_answer.ensures
