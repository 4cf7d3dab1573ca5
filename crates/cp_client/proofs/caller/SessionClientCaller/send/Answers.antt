use Rattle.std.proofs.Common.{inl}
use Rattle.std.proofs.lemmas.Result.{err_from_is_err_and}
use Rattle.cp_client.proofs.caller.SessionClientCaller.send.Goals as goal

pub returns-in_err-question : goal.returns-in_err-question
returns-in_err-question g c =
    let p = err_from_is_err_and c.from_residual-in_err-question.result c.from_residual-in_err-question.ensures.1 in
    rw (p.1, p.2) (inl (rw c.in_ok-cap.ensures at c.in_err-question.ensures.unasked))
