use Rattle.net_host.proofs.Timing.{no_longer}
use Rattle.net_host.proofs.host.SessionHost.wait.Goals as goal

pub returns : goal.returns
returns g c = rw (c.earlier.ensures, c.until.ensures) (no_longer _ c.retry_after.result)
