use Rattle.std.proofs.Common.{◌<◌, ◌+◌, length, ap, ◌∙◌, arith}
use Rattle.std.proofs.lemmas.Result.{err_from_is_err_and}
use Rattle.cp_words.specs.declared.kind.BodyKind.TheVariants as kinds
use Rattle.cp_words.specs.declared.place.Place.{Place}
use Rattle.cp_writing.specs.Sheets.{written, put, append}
use Rattle.cp_writing.specs.Writing.{body_blank, struct_placed}
use Rattle.cp_writing.proofs.Begins.{run_of, empty_begins, struct_hangs, struct_refuses}
use Rattle.cp_writing.proofs.Keeps.{spot, place_small, length-blank}
use Rattle.cp_writing.proofs.Sheets.{refuses_on, limits_on}
use Rattle.cp_writing.proofs.lay.begin_struct.Goals as goal

pub returns-then-words-ptrs-eq0 : goal.returns-then-words-ptrs-eq0
returns-then-words-ptrs-eq0 c =
    let A = c.args.arena.now in
    let at = c.args.at in
    empty_begins A c.put.new.self at c.args.words.now c.args.ptrs (omega (arith, c.if-words-ptrs-eq0.true)) c.requires.there c.requires.keeps (c.put.ensures.written ∙ ap (λ w. put at.segment at.word w (written A)) c.encode.ensures.word) c.put.ensures.limits

pub returns-in_err-start : goal.returns-in_err-start
returns-in_err-start c =
    let A = c.args.arena.now in
    let p = err_from_is_err_and c.from_residual.result c.from_residual.ensures.1 in
    let some : 0 < length c.args.words.now + c.args.ptrs = omega (arith, c.if-words-ptrs-eq0.false) in
    rw (p.1, p.2) (struct_refuses A.capacity c.args.at.segment c.args.at.word c.args.words.now c.args.ptrs (written A) some c.in_err-start.field-0.0 _ c.requires.there.0 c.in_err-start.ensures.0 (omega arith))

pub returns-in_err-append_body : goal.returns-in_err-append_body
returns-in_err-append_body c =
    let A = c.args.arena.now in
    let start = c.in_ok-start.ensures.0 in
    let e = c.in_err-append_body.field-0.0 in
    let refused = refuses_on A c.place.new.self e _ start.2 c.in_err-append_body.ensures in
    let p = err_from_is_err_and c.from_residual-in_err-append_body.result c.from_residual-in_err-append_body.ensures.1 in
    let some : 0 < length c.args.words.now + c.args.ptrs = omega (arith, c.if-words-ptrs-eq0.false) in
    let words = ap (λ W. (append (body_blank c.args.words.now c.args.ptrs) W).words) start.0 in
    rw (p.1, p.2) (struct_refuses A.capacity c.args.at.segment c.args.at.word c.args.words.now c.args.ptrs (written A) some e _ c.requires.there.0 refused (omega (arith, words)))

pub returns : goal.returns
returns c =
    let A = c.args.arena.now in
    let F = written A in
    let ws = c.args.words.now in
    let n = c.args.ptrs in
    let at = c.args.at in
    let x = struct_placed A.capacity at.segment at.word ws n F in
    let start = c.in_ok-start.ensures in
    let all = c.in_ok-append_body.ensures in
    let limits = limits_on A c.place.new.self c.append_body.new.arena start.0.2 all.2 in
    let new = all.0 ∙ ap (append (body_blank ws n)) start.0.0 in
    let some : 0 < length ws + n = omega (arith, c.if-words-ptrs-eq0.false) in
    let place : Place → Place = λ p. record { segment = p.segment; word = p.word + length ws } in
    let first = ap place start.1 in (
      all.1,
      run_of F at.segment at.word (length ws + n) (body_blank ws n) x _ _ (length ws) n (spot A.capacity at.segment at.word (kinds.Struct (length ws) n) (length ws + n) F c.requires.there.0) (length-blank ws n) new start.1 (omega (arith, length-blank ws n)),
      limits,
      struct_hangs A.capacity at.segment at.word ws n F some _ c.append_body.new.arena limits.0 first new,
    )

pub overflow_add-result : goal.overflow_add-result
overflow_add-result c =
    let ws = c.args.words.now in
    let start = c.in_ok-start.ensures in
    omega (arith, place_small c.args.arena.now c.place.new.self c.args.at (kinds.Struct (length ws) c.args.ptrs) (length ws + c.args.ptrs) c.in_ok-start.start c.requires.there.0 start.0.0 start.0.1 start.1, c.requires.sizes)
