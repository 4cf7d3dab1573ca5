use Rattle.std.proofs.Common.{refl, Ok, ℕ}
use Rattle.std.proofs.lemmas.Result.{err_from_is_err_and}
use Rattle.cp_vat_machine.specs.Capacity.{Fresh}
use Rattle.cp_vat_machine.specs.declared.event.Value.TheVariants as values
use Rattle.cp_vat.proofs.Faulting.{first_halts, refused_as_it_was}
use Rattle.cp_vat.proofs.asking.bootstrap.Goals as goal

pub returns-in_err-question_id : goal.returns-in_err-question_id
returns-in_err-question_id c =
    let p = err_from_is_err_and c.from_residual.result c.from_residual.ensures.1 in
    rw (p.1, p.2)
    (refused_as_it_was {A = ℕ} _ (λ q. values.Question q) c.args.core.now c.ask.new.core c.in_err-question_id.field-0.0 c.args.effects.now.items c.args.effects.now.items (first_halts (Fresh c.args.core.now.questions) _ c.in_err-question_id.field-0.0 c.in_err-question_id.ensures.fresh) c.in_err-question_id.ensures.unchanged)

pub returns : goal.returns
returns c = (_, c.in_ok-push.ensures.items, (Ok (_, _, _), (Ok c.in_ok-question_id.question_id, c.in_ok-question_id.ensures.fresh, rw c.in_ok-question_id.ensures.asked refl), refl))
