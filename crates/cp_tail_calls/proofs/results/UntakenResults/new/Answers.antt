use Rattle.std.proofs.Common.{sym}
use Rattle.cp_refs.proofs.Sums.{held-empty}
use Rattle.cp_tail_calls.specs.Results.{return_memory}
use Rattle.cp_tail_calls.proofs.results.UntakenResults.new.Goals as goal

pub invariant_of-result : goal.invariant_of-result
invariant_of-result c = rw c.new.ensures (sym (held-empty return_memory))
