use Rattle.std.proofs.Common.{refl}
use Rattle.std.proofs.lemmas.Result.{err_from_is_err_and}
use Rattle.cp_client.proofs.client.SessionClient.release.Goals as goal

pub returns-in_err-release-clause-unreleased : goal.returns-in_err-release-clause-unreleased
returns-in_err-release-clause-unreleased g c =
    let p = err_from_is_err_and c.from_residual.result c.from_residual.ensures.1 in
    rw (p.1, p.2) (_, refl, (c.in_err-release.ensures, refl))

pub returns-clause-releases : goal.returns-clause-releases
returns-clause-releases g c = (c.in_ok-release.ensures, refl)
