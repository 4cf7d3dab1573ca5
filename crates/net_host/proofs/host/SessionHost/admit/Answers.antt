use Rattle.std.proofs.Common.{refl}
use Rattle.net_host.proofs.host.SessionHost.admit.Goals as goal

pub returns-in-Some-clause-seats : goal.returns-in-Some-clause-seats
returns-in-Some-clause-seats g c = rw (← c.in-Some.ensures.value) c.admit.ensures.seats

pub returns-in-None-clause-seats : goal.returns-in-None-clause-seats
returns-in-None-clause-seats g c = rw (← c.in-None.ensures.value) refl
