use Rattle.net_host.proofs.Floors.{rounds_both}
use Rattle.net_host.specs.Floor.{begins, rests, turns}
use Rattle.net_host.proofs.host.SessionHost.round.Goals as goal

pub returns-in_err-has_event-clause-turns : goal.returns-in_err-has_event-clause-turns
returns-in_err-has_event-clause-turns g c = turns begins (rests c.wait.ensures.rests)

pub returns-clause-turns : goal.returns-clause-turns
returns-clause-turns g c = rounds_both (turns begins (rests c.wait.ensures.rests)) c.round.ensures.turns
