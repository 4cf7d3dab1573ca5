use Rattle.std.proofs.Common.{refl}
use Rattle.cp_client.proofs.Deciding.{done_or_fault}
use Rattle.cp_client.proofs.client.SessionClient.end.Goals as goal

pub returns : goal.returns
returns g c = record { ends = done_or_fault c.end.result c.end.ensures.ends c.end.ensures.cut; same = refl }
