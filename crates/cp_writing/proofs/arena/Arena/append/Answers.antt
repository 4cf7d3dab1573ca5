use Rattle.std.proofs.Common.{length, refl}
use Rattle.std.proofs.lemmas.Result.{err_from_is_err_and}
use Rattle.cp_writing.proofs.Sheets.{counted}
use Rattle.cp_writing.proofs.arena.Arena.append.Goals as goal

pub returns-in_err-count : goal.returns-in_err-count
returns-in_err-count c =
    let p = err_from_is_err_and c.from_residual.result c.from_residual.ensures.1 in
    let past = c.in_err-count.ensures.past in
    rw (p.1, p.2, past.0) past.1

pub returns : goal.returns
returns c =
    let ws = c.args.words.now in
    counted c.args.self.now c.count.new.self c.append.new.self ws (length ws) c.requires refl c.in_ok-count.ensures.within c.in_ok-count.ensures.counted c.in_ok-append.ensures
