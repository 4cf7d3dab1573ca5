use Rattle.std.proofs.Common.{sym}
use Rattle.std.proofs.lemmas.Bool.{le-leb, leb-true}
use Rattle.net_host.proofs.Timing.{comes_at, comes_none}
use Rattle.net_host.proofs.time.has_come.Goals as goal

pub returns-in-None : goal.returns-in-None
returns-in-None c = comes_none _ _ (sym c.in-None.is)

pub returns-in-Some : goal.returns-in-Some
returns-in-Some c = comes_at _ _ _ _ (sym c.in-Some.is) (leb-true c.in-Some.first c.args.now, le-leb c.in-Some.first c.args.now)
