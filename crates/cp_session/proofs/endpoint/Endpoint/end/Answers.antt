use Rattle.std.proofs.Common.{refl}
use Rattle.std.proofs.lemmas.Result.{err_from_is_err_and}
use Rattle.cp_session.specs.Serves.{badly, ran_out}
use Rattle.cp_session.proofs.endpoint.Endpoint.end.Goals as goal

pub returns-in_err-end-clause-unended : goal.returns-in_err-end-clause-unended
returns-in_err-end-clause-unended g c =
    let p = err_from_is_err_and c.from_residual.result c.from_residual.ensures.1 in
    rw (p.1, p.2) (badly c.in_err-end.ensures.cut refl)

pub returns-in_err-round-clause-unended : goal.returns-in_err-round-clause-unended
returns-in_err-round-clause-unended g c =
    let p = err_from_is_err_and c.from_residual-in_err-round.result c.from_residual-in_err-round.ensures.1 in
    rw (p.1, p.2) (ran_out _ c.in_ok-end.ensures.ended c.round.ensures.lives refl)

pub returns-clause-ends : goal.returns-clause-ends
returns-clause-ends g c = record { link = c.end.new.self; ends = c.in_ok-end.ensures.ended; polls = rw c.renew.ensures at c.in_ok-round.ensures.polls }
