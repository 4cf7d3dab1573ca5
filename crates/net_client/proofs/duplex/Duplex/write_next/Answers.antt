use Rattle.std.proofs.Common.{inl, inr}
use Rattle.net_client.proofs.Passing.{waits_none}
use Rattle.net_client.proofs.duplex.Duplex.write_next.Goals as goal

pub returns-then-self-clause-sends : goal.returns-then-self-clause-sends
returns-then-self-clause-sends g c = inr (c.if-self.true, waits_none _)

pub returns-then-is_empty-clause-sends : goal.returns-then-is_empty-clause-sends
returns-then-is_empty-clause-sends g c = inl (waits_none _)
