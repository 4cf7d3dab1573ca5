use Rattle.std.proofs.Common.{◌≡◌, ℕ, ◌+◌, replicate, ap, ◌∙◌, arith}
use Rattle.std.proofs.lemmas.Result.{err_from_is_err_and}
use Rattle.std.proofs.lemmas.List.{length-replicate}
use Rattle.cp_words.specs.declared.pointer.ElementSize.TheVariants as sizes
use Rattle.cp_words.specs.declared.kind.BodyKind.TheVariants as kinds
use Rattle.cp_writing.specs.Sheets.{written, append}
use Rattle.cp_writing.specs.Writing.{ptrs_placed}
use Rattle.cp_writing.proofs.Begins.{run_of, ptrs_hang, ptrs_refuse}
use Rattle.cp_writing.proofs.Keeps.{spot}
use Rattle.cp_writing.proofs.Sheets.{refuses_on, limits_on}
use Rattle.cp_writing.proofs.lay.begin_ptrs.Goals as goal

pub returns-in_err-start : goal.returns-in_err-start
returns-in_err-start c =
    let A = c.args.arena.now in
    let p = err_from_is_err_and c.from_residual.result c.from_residual.ensures.1 in
    rw (p.1, p.2) (ptrs_refuse A.capacity c.args.at.segment c.args.at.word c.args.count (written A) c.in_err-start.field-0.0 _ c.requires.there.0 c.in_err-start.ensures.0 (omega arith))

pub returns-in_err-append_blank : goal.returns-in_err-append_blank
returns-in_err-append_blank c =
    let A = c.args.arena.now in
    let start = c.in_ok-start.ensures.0 in
    let e = c.in_err-append_blank.field-0.0 in
    let refused = refuses_on A c.place_list.new.arena e _ start.2 c.in_err-append_blank.ensures in
    let p = err_from_is_err_and c.from_residual-in_err-append_blank.result c.from_residual-in_err-append_blank.ensures.1 in
    let words = ap (λ W. (append (replicate {A = ℕ} c.args.count 0) W).words) start.0 in
    rw (p.1, p.2) (ptrs_refuse A.capacity c.args.at.segment c.args.at.word c.args.count (written A) e _ c.requires.there.0 refused (omega (arith, words)))

pub returns : goal.returns
returns c =
    let A = c.args.arena.now in
    let F = written A in
    let n = c.args.count in
    let at = c.args.at in
    let blank = replicate {A = ℕ} n 0 in
    let long = length-replicate {A = ℕ} n 0 in
    let start = c.in_ok-start.ensures in
    let all = c.in_ok-append_blank.ensures in
    let limits = limits_on A c.place_list.new.arena c.append_blank.new.self start.0.2 all.2 in
    let new = all.0 ∙ ap (append blank) start.0.0 in
    let x = ptrs_placed A.capacity at.segment at.word n F in
    let none : x.at.word ≡ x.at.word + 0 = omega arith in
    let first = start.1 ∙ ap (λ w. record { segment = x.at.segment; word = w }) none in
    let run = run_of F at.segment at.word n blank x _ _ 0 n (spot A.capacity at.segment at.word (kinds.List sizes.Pointer n) n F c.requires.there.0) long new start.1 (omega (arith, long)) in (
      all.1,
      (run.0, omega (arith, run.1)),
      limits,
      ptrs_hang A.capacity at.segment at.word n F _ c.append_blank.new.self limits.0 first new,
    )
