use Rattle.std.proofs.Common.{Ok, Err, refl}
use Rattle.std.proofs.lemmas.Result.{err_from_is_err_and}
use Rattle.cp_vat_machine.specs.State.{with_exports}
use Rattle.cp_vat_machine.specs.Writing.{WritesEnd}
use Rattle.cp_vat_machine.specs.Give.{ResolvesEnd}
use Rattle.cp_vat_rules.proofs.Saying.{leaves_err}
use Rattle.cp_vat_rules.proofs.Giving.{resolves_other}
use Rattle.cp_vat_rules.proofs.settle.resolve_end.Goals as goal

pub returns-in_err-said-in_default-clause-said : goal.returns-in_err-said-in_default-clause-said
returns-in_err-said-in_default-clause-said c s =
    let p = err_from_is_err_and c.from_residual-in_err-said-in_default.result c.from_residual-in_err-said-in_default.ensures.1 in
    let old = with_exports s c.args.exports.now in
    rw (p.1, p.2) (leaves_err (WritesEnd old c.args.last.now) (ResolvesEnd old c.args.last.now) _ _ _ (λ f r. resolves_other old c.args.last.now (Err f) c.in_default.not-Broken (Err f, r, refl)) (c.in_err-said-in_default.ensures.said s))

pub returns-in_ok-said-in_default-clause-said : goal.returns-in_ok-said-in_default-clause-said
returns-in_ok-said-in_default-clause-said c s =
    let old = with_exports s c.args.exports.now in
    resolves_other old c.args.last.now _ c.in_default.not-Broken (Ok (c.in_ok-said-in_default.said, with_exports s c.write_end.new.exports), c.in_ok-said-in_default.ensures.said s, refl)
