use Rattle.std.proofs.lemmas.Result.{err_from_is_err_and}
use Rattle.cp_vat_machine.specs.Writing.{WritesDescriptor, WritesEnd}
use Rattle.cp_vat_rules.specs.Leading.{with_parts}
use Rattle.cp_vat_rules.proofs.Saying.{leaves_err}
use Rattle.cp_vat_rules.proofs.descriptors.write_descriptor.Goals as goal

pub returns-in_err-said-clause-said : goal.returns-in_err-said-clause-said
returns-in_err-said-clause-said c s =
    let p = err_from_is_err_and c.from_residual-in_err-said.result c.from_residual-in_err-said.ensures.1 in
    let old = with_parts s c.args.values.now c.args.exports.now in
    rw (p.1, p.2) (leaves_err (WritesEnd old c.in_ok-last.last) (WritesDescriptor old c.args.cap.now) _ _ _ (λ f r. (c.in_ok-last.last, c.in_ok-last.ensures, r)) (c.in_err-said.ensures.said old))

pub returns-clause-said : goal.returns-clause-said
returns-clause-said c s = (c.in_ok-last.last, c.in_ok-last.ensures, c.in_ok-said.ensures.said (with_parts s c.args.values.now c.args.exports.now))
