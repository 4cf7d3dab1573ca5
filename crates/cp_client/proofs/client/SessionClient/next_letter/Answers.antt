use Rattle.std.proofs.Common.{refl}
use Rattle.cp_client.proofs.client.SessionClient.next_letter.Goals as goal

pub returns : goal.returns
returns g c = (c.next_letter.ensures, refl)
