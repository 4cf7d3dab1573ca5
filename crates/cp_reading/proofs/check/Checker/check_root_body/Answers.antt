use Rattle.std.proofs.Common.{refl, ◌∙◌}
use Rattle.std.proofs.lemmas.Result.{err_from_is_err_and}
use Rattle.cp_reading.proofs.Roots.{read_fault}
use Rattle.cp_reading.proofs.check.Checker.check_root_body.Goals as goal

pub returns-in_err-check_body-clause-fault : goal.returns-in_err-check_body-clause-fault
returns-in_err-check_body-clause-fault g c =
    let p = err_from_is_err_and c.from_residual.result c.from_residual.ensures.1 in
    rw (p.1, p.2) (c.requires.root ∙ rw (read_fault _ _ _ _ c.in_err-check_body.ensures.reports) refl)
