use Rattle.std.proofs.Common.{ℕ, replicate, arith}
use Rattle.std.proofs.lemmas.List.{length-replicate}
use Rattle.std.proofs.lemmas.Result.{err_from_is_err_and}
use Rattle.cp_writing.proofs.Sheets.{counted}
use Rattle.cp_writing.proofs.arena.Arena.append_blank.Goals as goal

pub returns-in_err-count : goal.returns-in_err-count
returns-in_err-count c =
    let p = err_from_is_err_and c.from_residual.result c.from_residual.ensures.1 in
    let past = c.in_err-count.ensures.past in
    rw (p.1, p.2, past.0) (omega (arith, past.1, length-replicate {A = ℕ} c.args.words 0))

pub returns : goal.returns
returns c =
    let n = c.args.words in
    counted c.args.self.now c.count.new.self c.append_blank.new.self (replicate {A = ℕ} n 0) n c.requires (length-replicate {A = ℕ} n 0) c.in_ok-count.ensures.within c.in_ok-count.ensures.counted c.in_ok-append_blank.ensures
