use Rattle.cp_session.proofs.endpoint.Endpoint.refuse.Goals as goal

pub returns-in-Some-clause-refuses : goal.returns-in-Some-clause-refuses
returns-in-Some-clause-refuses c = rw c.in-Some.is c.abort.ensures
