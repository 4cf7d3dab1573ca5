use Rattle.std.proofs.Common.{Ok, Err, refl}
use Rattle.std.proofs.lemmas.Result.{err_from_is_err_and}
use Rattle.cp_refs.specs.declared.outcome.Outcome.TheVariants as outcomes
use Rattle.cp_vat_machine.specs.Writing.{WritesDescriptors}
use Rattle.cp_vat_machine.specs.Give.{Returns}
use Rattle.cp_vat_rules.specs.Leading.{with_parts}
use Rattle.cp_vat_rules.proofs.Saying.{leaves_err}
use Rattle.cp_vat_rules.proofs.give.returned.Goals as goal

pub returns-in_err-cap_table-in-Results-clause-said : goal.returns-in_err-cap_table-in-Results-clause-said
returns-in_err-cap_table-in-Results-clause-said c s =
    let p = err_from_is_err_and c.from_residual.result c.from_residual.ensures.1 in
    let old = with_parts s c.args.values.now c.args.exports.now in
    rw (c.in-Results.is, p.1, p.2) (leaves_err (WritesDescriptors old c.caps.result.now) (Returns old (outcomes.Results c.in-Results.content c.in-Results.caps)) _ _ _ (λ f r. (Err f, rw c.caps.ensures at r, refl)) (c.in_err-cap_table-in-Results.ensures.said s))

pub returns-in_ok-cap_table-in-Results-clause-said : goal.returns-in_ok-cap_table-in-Results-clause-said
returns-in_ok-cap_table-in-Results-clause-said c s =
    rw c.in-Results.is (Ok (c.in_ok-cap_table-in-Results.cap_table, with_parts s c.args.values.now c.write_descriptors.new.exports), rw c.caps.ensures at (c.in_ok-cap_table-in-Results.ensures.said s), refl)
