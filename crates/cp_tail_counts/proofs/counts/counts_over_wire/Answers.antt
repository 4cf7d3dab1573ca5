use Rattle.cp_tail_counts.proofs.Living.{counts_over_wire}
use Rattle.cp_tail_counts.proofs.counts.counts_over_wire.Goals as goal

pub returns : goal.returns
returns c = counts_over_wire
