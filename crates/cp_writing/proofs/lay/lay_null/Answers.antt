use Rattle.std.proofs.Common.{arith}
use Rattle.cp_writing.specs.Sheets.{written}
use Rattle.cp_writing.proofs.Sheets.{put-keeps, within}
use Rattle.cp_writing.proofs.lay.lay_null.Goals as goal

pub returns : goal.returns
returns c =
    let A = c.args.arena.now in
    let at = c.args.at in
    let done = c.put.ensures in
    (omega arith, omega (arith, done.limits.1), done.written, within A c.put.new.self _ done.written done.limits (put-keeps A.capacity (written A) at.segment at.word 0 c.requires.there.0 c.requires.keeps), done.limits.0)
