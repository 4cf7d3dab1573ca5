use Rattle.std.proofs.Common.{refl, sym}
use Rattle.net_host.proofs.Timing.{is_at, is_none}
use Rattle.net_host.proofs.time.Time.is_swept.Goals as goal

pub returns-in-None : goal.returns-in-None
returns-in-None c = is_none _ _ (sym c.in-None.is)

pub returns-in-Some : goal.returns-in-Some
returns-in-Some c = is_at _ _ c.in-Some.last _ refl (sym c.in-Some.is)
