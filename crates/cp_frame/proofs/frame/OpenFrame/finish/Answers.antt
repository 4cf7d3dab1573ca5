use Rattle.std.proofs.Common.{◌≡◌, length, arith}
use Rattle.cp_frame.proofs.Opened.{length_rest}
use Rattle.cp_frame.proofs.frame.OpenFrame.finish.Goals as goal

pub returns-clause-taken : goal.returns-clause-taken
returns-clause-taken c =
    let f = c.args.self.now in
    let none : length f.words.items ≡ 0 = rw c.requires.no_words (omega arith) in
    let no_part : length f.part.items ≡ 0 = rw c.requires.no_part (omega arith) in
    omega (arith, length_rest f, none, no_part, c.requires.total, c.len.ensures)
