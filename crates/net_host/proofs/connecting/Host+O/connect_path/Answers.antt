use Rattle.std.proofs.Common.{inl, refl}
use Rattle.cp_session.specs.State.{state_of}
use Rattle.net_host.proofs.Floors.{rests_none}
use Rattle.net_host.specs.Floor.{connections_of}
use Rattle.net_host.proofs.connecting.Host+O.connect_path.Goals as goal

pub returns-in-Err-clause-unconnected : goal.returns-in-Err-clause-unconnected
returns-in-Err-clause-unconnected g c = rests_none (connections_of state_of c.args.self.now)

pub returns-in-Err-clause-stays : goal.returns-in-Err-clause-stays
returns-in-Err-clause-stays g c = (refl, inl refl, refl)
