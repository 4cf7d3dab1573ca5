use Rattle.std.proofs.Common.{Ok, Err, refl}
use Rattle.std.proofs.lemmas.Result.{err_from_is_err_and}
use Rattle.cp_vat_machine.specs.State.{with_exports}
use Rattle.cp_vat_machine.specs.Writing.{Raise, WritesEnd}
use Rattle.cp_refs.specs.declared.cap.Cap.TheVariants as caps
use Rattle.cp_vat_rules.proofs.Saying.{leaves_err}
use Rattle.cp_vat_rules.proofs.descriptors.write_end.Goals as goal

pub returns-in_err-raise-in-Object-clause-said : goal.returns-in_err-raise-in-Object-clause-said
returns-in_err-raise-in-Object-clause-said c s =
    let p = err_from_is_err_and c.from_residual.result c.from_residual.ensures.1 in
    let old = with_exports s c.args.exports.now in
    rw (c.in-Object.is, p.1, p.2) (leaves_err (Raise old (caps.Object c.in-Object.k)) (WritesEnd old (caps.Object c.in-Object.k)) _ _ _ (λ f r. (Err f, r, refl)) (c.in_err-raise-in-Object.ensures.raised s))

pub returns-in_err-raise-in-Promise-clause-said : goal.returns-in_err-raise-in-Promise-clause-said
returns-in_err-raise-in-Promise-clause-said c s =
    let p = err_from_is_err_and c.from_residual-in_err-raise-in-Promise.result c.from_residual-in_err-raise-in-Promise.ensures.1 in
    let old = with_exports s c.args.exports.now in
    rw (c.in-Promise.is, p.1, p.2) (leaves_err (Raise old (caps.Promise c.in-Promise.p)) (WritesEnd old (caps.Promise c.in-Promise.p)) _ _ _ (λ f r. (Err f, r, refl)) (c.in_err-raise-in-Promise.ensures.raised s))

pub returns-in_ok-raise-in-Object-clause-said : goal.returns-in_ok-raise-in-Object-clause-said
returns-in_ok-raise-in-Object-clause-said c s = rw c.in-Object.is (Ok (c.in_ok-raise-in-Object.field-0, with_exports s c.raise.new.self), c.in_ok-raise-in-Object.ensures.raised s, refl)

pub returns-in_ok-raise-in-Promise-clause-said : goal.returns-in_ok-raise-in-Promise-clause-said
returns-in_ok-raise-in-Promise-clause-said c s = rw c.in-Promise.is (Ok (c.in_ok-raise-in-Promise.field-0, with_exports s c.raise-in-Promise.new.self), c.in_ok-raise-in-Promise.ensures.raised s, refl)
