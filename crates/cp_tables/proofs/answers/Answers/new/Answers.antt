use Rattle.std.proofs.Common.{◌≤◌, arith}
use Rattle.std.specs.Ordering.{nat_cmp}
use Rattle.std.specs.FinMap.{len, len-empty}
use Rattle.cp_tables.specs.declared.TheConstants.{LIMIT}
use Rattle.cp_tables.proofs.answers.Answers.new.Goals as goal

pub invariant_of-result : goal.invariant_of-result
invariant_of-result g c =
    let few : len c.new.result ≤ LIMIT = rw (c.new.ensures, len-empty nat_cmp _) (omega arith) in
    few
