use Rattle.std.proofs.Common.{refl}
use Rattle.std.proofs.lemmas.Result.{err_from_is_err_and}
use Rattle.cp_client.proofs.client.SessionClient.finish.Goals as goal

pub returns-in_err-finish-clause-undone : goal.returns-in_err-finish-clause-undone
returns-in_err-finish-clause-undone g c =
    let p = err_from_is_err_and c.from_residual.result c.from_residual.ensures.1 in
    rw (p.1, p.2) (_, refl, record { did = c.in_err-finish.ensures.unfinished; same = refl })

pub returns-clause-finishes : goal.returns-clause-finishes
returns-clause-finishes g c = record {
  finished = g.S.DrivenSession.state c.finish.new.self;
  finishes = c.in_ok-finish.ensures.finishes;
  releases = c.release_untaken.ensures.released;
  same = c.release_untaken.ensures.same;
}
