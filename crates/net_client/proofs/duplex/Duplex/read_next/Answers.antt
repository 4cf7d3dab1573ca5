use Rattle.std.proofs.Common.{refl}
use Rattle.net_client.proofs.Passing.{at_error, waits_none, waits_same}
use Rattle.net_client.proofs.duplex.Duplex.read_next.Goals as goal

pub returns-in_err-is_late-clause-gives_none : goal.returns-in_err-is_late-clause-gives_none
returns-in_err-is_late-clause-gives_none g c = at_error c.from_residual.result (waits_none _)

pub returns-then-branch-clause-gives_none : goal.returns-then-branch-clause-gives_none
returns-then-branch-clause-gives_none g c = waits_none _

pub returns-in_err-wait-clause-gives_none : goal.returns-in_err-wait-clause-gives_none
returns-in_err-wait-clause-gives_none g c = at_error c.from_residual-in_err-wait.result (waits_same c.wait.ensures refl)

pub returns-then-not-is_readable-clause-waits : goal.returns-then-not-is_readable-clause-waits
returns-then-not-is_readable-clause-waits g c = waits_same c.wait.ensures refl
