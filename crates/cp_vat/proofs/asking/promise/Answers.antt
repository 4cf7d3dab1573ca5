use Rattle.std.proofs.Common.{refl, Ok, [], ℕ}
use Rattle.std.proofs.lemmas.Result.{err_from_is_err_and}
use Rattle.cp_vat_machine.specs.Capacity.{Fresh}
use Rattle.cp_vat_state.specs.StateOf.{state_of}
use Rattle.cp_vat_machine.specs.declared.event.Value.TheVariants as values
use Rattle.cp_vat.proofs.Faulting.{first_halts, refused_by}
use Rattle.cp_vat.proofs.asking.promise.Goals as goal

pub returns-in_err-id : goal.returns-in_err-id
returns-in_err-id c =
    let p = err_from_is_err_and c.from_residual.result c.from_residual.ensures.1 in
    rw (p.1, p.2)
    (refused_by {A = ℕ} _ (λ p. values.Promise p) (state_of c.args.core.now) _ c.in_err-id.field-0.0 [] [] (first_halts (Fresh c.args.core.now.values.promises) _ c.in_err-id.field-0.0 c.in_err-id.ensures.fresh) (rw c.in_err-id.ensures.err refl))

pub returns : goal.returns
returns c = ([], refl, (Ok (_, [], _), (Ok c.in_ok-id.id, c.in_ok-id.ensures.fresh, rw (c.in_ok-insert.ensures.put, c.in_ok-id.ensures.opened) refl), refl))
