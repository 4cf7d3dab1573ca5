use Rattle.std.proofs.Common.{sym}
use Rattle.cp_frame.proofs.Tables.{size_even, size_odd}
use Rattle.cp_frame.proofs.table.size.Goals as goal

pub returns-then-segment-eq0-clause-value : goal.returns-then-segment-eq0-clause-value
returns-then-segment-eq0-clause-value c = sym (size_even c.args.table.now c.args.segment c.if-segment-eq0.true c.requires.in_table)

pub returns-else-segment-eq0-clause-value : goal.returns-else-segment-eq0-clause-value
returns-else-segment-eq0-clause-value c = sym (size_odd c.args.table.now c.args.segment c.if-segment-eq0.false c.requires.in_table)
