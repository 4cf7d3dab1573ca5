use Rattle.net_host.proofs.Letters.{in_order}
use Rattle.net_host.proofs.laws.delivers_in_order.Goals as goal

pub returns : goal.returns
returns g c = in_order
