use Rattle.std.proofs.Common.{ℕ, replicate, subst, ap, ◌∙◌}
use Rattle.cp_writing.specs.Sheets.{Writes, written, append}
use Rattle.cp_writing.proofs.Begins.{append_twice}
use Rattle.cp_writing.proofs.Sheets.{writes_on}
use Rattle.cp_writing.proofs.lay.append_body.Goals as goal

pub returns : goal.returns
returns c =
    let A = c.args.arena.now in
    let D = c.append_blank.new.self in
    let blank = replicate {A = ℕ} c.args.ptrs 0 in
    let all = writes_on A c.append-2.new.self D c.append_blank.result _ c.in_ok-append.ensures.2 c.append_blank.ensures in
    subst (Writes A D c.append_blank.result) (ap (append blank) c.in_ok-append.ensures.0 ∙ append_twice (written A) c.args.words.now blank) all
