use Rattle.cp_tail_counts.proofs.Turns.{turns_count}
use Rattle.cp_tail_counts.proofs.counts.turns_count.Goals as goal

pub returns : goal.returns
returns c = turns_count
