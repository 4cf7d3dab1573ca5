use Rattle.cp_vat_pair_laws.proofs.lane.Order.{lane_order}
use Rattle.cp_vat_pair_laws.proofs.call_order.lane_order.Goals as goal

pub returns : goal.returns
returns c = lane_order
