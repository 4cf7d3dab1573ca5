use Rattle.std.proofs.Common.{◌≡◌, drop}
use Rattle.cp_tail_calls.specs.Sending.{lent_all}
use Rattle.cp_tail_calls.proofs.lending.lend_each.Given as goal

-- once what is left is counted, all is
abbrev pub invariant-loop-descriptor : goal.invariant-loop-descriptor
invariant-loop-descriptor l = lent_all l.lent (drop l.descriptor-index l.table) ≡ lent_all l.fn.lent l.table
