use Rattle.std.proofs.Common.{arith}
use Rattle.cp_frame.proofs.Tables.{total_both, total_one}
use Rattle.cp_frame.proofs.table.total_with.Goals as goal

pub returns-then-table-count : goal.returns-then-table-count
returns-then-table-count c = total_both c.args.table.now c.args.total c.args.word c.if-is_empty.ensures c.requires.total (omega (arith, c.if-table-count.true, c.count.ensures.value))

pub returns-else-table-count : goal.returns-else-table-count
returns-else-table-count c = total_one c.args.table.now c.args.total c.args.word c.if-is_empty.ensures c.requires.total c.requires.open (omega (arith, c.if-table-count.false, c.count.ensures.value))
