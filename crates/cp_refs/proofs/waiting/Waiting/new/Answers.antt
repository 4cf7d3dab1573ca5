use Rattle.cp_refs.proofs.Queueing.{queued-empty}
use Rattle.cp_refs.proofs.waiting.Waiting.new.Goals as goal

pub invariant_of-result : goal.invariant_of-result
invariant_of-result c = rw (c.new.ensures, c.new-2.ensures, c.new-3.ensures) queued-empty
