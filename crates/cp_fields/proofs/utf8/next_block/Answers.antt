use Rattle.std.proofs.Common.{◌≡◌, ◌+◌, ◌-◌, ◌/◌, ◌∙◌, arith}
use Rattle.cp_fields.proofs.Blocks.{block-words}
use Rattle.cp_fields.proofs.utf8.next_block.Goals as goal

pub returns-then-to-words : goal.returns-then-to-words
returns-then-to-words c =
    let first = c.args.first in
    let whole : first / 8 + 8 - first / 8 ≡ 8 = omega arith in
    let read = rw whole at c.whole_block.ensures in
    read ∙ block-words c.args.words.now first c.args.end c.requires.even c.if-first-end.true
