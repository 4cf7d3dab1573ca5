use Rattle.std.proofs.lemmas.Result.{err_from_is_err_and}
use Rattle.cp_connection.proofs.Finishing.{receives_of}
use Rattle.cp_dispatch.specs.WorkOf.{work_of}
use Rattle.cp_session.proofs.Serving.{cut_later, few_received}
use Rattle.cp_session.proofs.endpoint.Endpoint.receive.Goals as goal

pub returns-in_err-count-clause-cut : goal.returns-in_err-count-clause-cut
returns-in_err-count-clause-cut g c =
    let p = err_from_is_err_and c.from_residual.result c.from_residual.ensures.1 in
    rw (p.1, p.2) c.in_err-count.ensures.unreceived

pub returns-in_err-follow-clause-cut : goal.returns-in_err-follow-clause-cut
returns-in_err-follow-clause-cut g c =
    let p = err_from_is_err_and c.from_residual-in_err-follow.result c.from_residual-in_err-follow.ensures.1 in
    let got = c.in_ok-count.ensures.received in
    rw (p.1, p.2) (cut_later _ c.in_ok-count.count (receives_of got.4) got.8 c.follow.ensures.lives)

pub returns-clause-takes : goal.returns-clause-takes
returns-clause-takes g c = record {
  has_ended = c.in_ok-count.has_ended;
  work = work_of c.receive.new.self c.receive.new.connection;
  between = c.receive.new.objects;
  receives = c.in_ok-count.ensures.received;
  follows = c.in_ok-follow.ensures.follows;
}

pub returns-clause-few : goal.returns-clause-few
returns-clause-few g c = few_received _ _ (receives_of c.in_ok-count.ensures.received.4)
