use Rattle.std.proofs.Common.{refl, arith}
use Rattle.net_host.specs.HostedConnections.{minds_full, minds_none}
use Rattle.net_host.proofs.hosted_connection.HostedConnection.refuse.Goals as goal

pub returns-then-kept-allowed-clause-refuses : goal.returns-then-kept-allowed-clause-refuses
returns-then-kept-allowed-clause-refuses g c = minds_full (omega (arith, c.kept-kept.ensures, c.if-kept-allowed.true)) c.refuse.ensures

pub returns-else-kept-allowed-clause-refuses : goal.returns-else-kept-allowed-clause-refuses
returns-else-kept-allowed-clause-refuses g c = minds_none (omega (arith, c.kept-kept.ensures, c.if-kept-allowed.false)) refl
