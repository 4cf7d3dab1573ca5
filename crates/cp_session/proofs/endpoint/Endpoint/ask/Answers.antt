use Rattle.cp_session.specs.Asking.{is_unasked}
use Rattle.cp_session.proofs.Asking.{asked_by}
use Rattle.cp_session.proofs.endpoint.Endpoint.ask.Goals as goal

pub returns-in-Ok-clause-asks : goal.returns-in-Ok-clause-asks
returns-in-Ok-clause-asks c = asked_by c.in-Ok.question c.finish.result c.in-Ok.ensures c.finish.ensures

pub returns-in-Err-clause-asks : goal.returns-in-Err-clause-asks
returns-in-Err-clause-asks c = is_unasked _ c.in-Err.ensures
